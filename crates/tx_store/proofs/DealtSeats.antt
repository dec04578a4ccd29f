-- Seats and families, one after another.
use Rattle.std.proofs.Common.{◌≡◌, ◌≤◌, ◌+◌, ◌<◌, ℕ, suc, List, [], ◌∷◌, ◌++◌, Some, take, length, get_or, sym, ap, subst, ◌∙◌, arith, length-append}
use Rattle.std.specs.Prelude.{All, slice_get}
use Rattle.std.proofs.Math.ListN.{get_or-append}
use Rattle.std.proofs.Math.Seq.{get_or-append_seam}
use Rattle.std.proofs.lemmas.List.{get_or-take, length-take-le}
use Rattle.std.proofs.lemmas.Option.{slice_get-get_or, slice_get_within, get_or_from_slice_get}
use Rattle.tx_cells.specs.Contents.{Content, nothing_held}
use Rattle.tx_journal.specs.Known.{Known, known}

-- what holds of each holds of the first, and of each after it
pub first_of : {X : Type 0} (P : X → Type 0) (xs : List X) (x : X) (rest : List X) → xs ≡ x ∷ rest → All P xs → P x
first_of P xs x rest is all = subst (All P) is all 0 x (omega arith)

pub rest_of : {X : Type 0} (P : X → Type 0) (xs : List X) (x : X) (rest : List X) → xs ≡ x ∷ rest → All P xs
    → All P rest
rest_of P xs x rest is all = λ k d h. subst (All P) is all (suc k) d (omega (arith, h))

-- of the last, and of each before it
pub last_of : {X : Type 0} (P : X → Type 0) (xs front : List X) (x : X) → xs ≡ front ++ x ∷ [] → All P xs → P x
last_of P xs front x is all =
    subst P (get_or-append_seam front x [] x)
    (subst (All P) is all (length front) x (omega (arith, length-append front (x ∷ []))))

pub front_of : {X : Type 0} (P : X → Type 0) (xs front : List X) (x : X) → xs ≡ front ++ x ∷ [] → All P xs → All P front
front_of P xs front x is all =
    λ k d h. subst P (get_or-append front (x ∷ []) d k h)
    (subst (All P) is all k d (omega (arith, h, length-append front (x ∷ []))))

-- a seat of one of the regions up to n, which knows of no event
abbrev pub IsRegionSeat : ℕ → Known → Type 0
IsRegionSeat n s = (s.seat ≤ n) × (s.events ≡ [])

-- families that hold nothing
abbrev pub HoldNothing : {F : Type 0} → (F → Content) → F → Type 0
HoldNothing content f = content f ≡ (λ k. nothing_held)

-- each of so many seats, dealt in their order, is a region's
pub region_seats : (seats : List Known) (n : ℕ)
    → length seats ≡ n + 1 → ((k : ℕ) (s : Known) → slice_get seats k ≡ Some s → (s.seat ≡ k) × (s.events ≡ []))
    → All (IsRegionSeat n) seats
region_seats seats n count dealt = λ k d h.
    let s = dealt k (get_or seats k d) (slice_get-get_or seats k d h) in
    (omega (arith, s.0, h, count), s.1)

-- what is found in the front of a list is found in the list
pub found_in_front : {X : Type 0} (xs : List X) (n k : ℕ) (x : X) → n ≤ length xs → slice_get (take n xs) k ≡ Some x
    → slice_get xs k ≡ Some x
found_in_front xs n k x fits e =
    let within = slice_get_within (take n xs) k x e in
    let count = length-take-le n xs fits in
    let same : x ≡ get_or xs k x = sym (get_or_from_slice_get (take n xs) k x x e)
    ∙ get_or-take n xs k x (omega (arith, within, count)) in
    slice_get-get_or xs k x (omega (arith, within, count, fits)) ∙ ap Some (sym same)

-- the seats in front of those that were dealt in their order were dealt in theirs
pub dealt_in_front : (seats : List Known) (n : ℕ) → n ≤ length seats → ((k : ℕ) (s : Known) → slice_get seats k ≡ Some s
    → (s.seat ≡ k) × (s.events ≡ []))
    → (front : List Known) → front ≡ take n seats → (k : ℕ) (s : Known) → slice_get front k ≡ Some s
    → (s.seat ≡ k) × (s.events ≡ [])
dealt_in_front seats n fits dealt front is k s e =
    dealt k s (found_in_front seats n k s fits (subst (λ xs. slice_get xs k ≡ Some s) is e))

-- seats that were dealt in their order have its numbers, and know of no event
pub are_dealt : (seats : List Known) (n ticks : ℕ) → length seats ≡ n
    → ((k : ℕ) → k < n → slice_get seats k ≡ Some (known k ticks [])) → (k : ℕ) (s : Known) → slice_get seats k ≡ Some s
    → (s.seat ≡ k) × (s.events ≡ [])
are_dealt seats n ticks count each k s e =
    let within = slice_get_within seats k s e in
    let dealt = each k (omega (arith, within, count)) in
    let same : s ≡ known k ticks [] = sym (get_or_from_slice_get seats k s s e)
    ∙ get_or_from_slice_get seats k (known k ticks []) s dealt in
    (ap (λ (x : Known). x.seat) same, ap (λ (x : Known). x.events) same)
