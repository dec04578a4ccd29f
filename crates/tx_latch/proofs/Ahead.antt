-- A command is granted exactly where it stands directly behind none.
use Rattle.std.proofs.Common.{◌≡◌, ℕ, ◌+◌, Bool, true, false, cond, not, ◌||◌, eqb, List, [], ◌∷◌, ◌++◌, refl, sym, ap, ◌∙◌, subst, append_assoc, arith}
use Rattle.std.proofs.lemmas.List.{append-nil}
use Rattle.std.proofs.lemmas.Bool.Decides.{nat_tests}
use Rattle.tx_latch.specs.Asked.{Command, contains, meets, granted_behind, granted, cids, is_granted, blocked, Lacks, Distinct}
use Rattle.tx_latch.specs.Queues.{minus, untaken, followers, ahead_of}
use Rattle.tx_latch.proofs.Lists.{or_none, or_false, eqb_self, contains-append}
use Rattle.tx_latch.proofs.Granted.{Lacks-granted, Lacks-filter, Distinct-around, granted_behind_is}
use Rattle.tx_latch.proofs.Links.{minus_meets, followers-push, followers-skip}

-- a number that is not in the list follows nobody
pub Lacks-followers : (x : ℕ) (slots : List ℕ) (cs : List Command) → Lacks x cs
    → contains x (followers slots cs) ≡ false
Lacks-followers x slots [] h = refl
Lacks-followers x slots (c ∷ cs) h =
    let two = or_none (eqb x c.cid) (contains x (cids cs)) h in
    let ih = Lacks-followers x (minus slots c.slots) cs two.1 in
    elim (meets slots c.slots) as (λ b. contains x
    (cond b (c.cid ∷ followers (minus slots c.slots) cs) (followers (minus slots c.slots) cs))
    ≡ false) [ true ↦ rw two.0 ih | false ↦ ih ]

-- a command follows where one of the slots is left when its turn comes
pub follows_at : (slots : List ℕ) (mid : List Command) (c : Command) (xs : List Command) → Lacks c.cid mid
    → Lacks c.cid xs → contains c.cid (followers slots (mid ++ c ∷ xs)) ≡ meets (untaken slots mid) c.slots
follows_at slots [] c xs h k =
    let none = Lacks-followers c.cid (minus slots c.slots) xs k in
    elim (meets slots c.slots) as (λ b. contains c.cid
    (cond b (c.cid ∷ followers (minus slots c.slots) xs) (followers (minus slots c.slots) xs))
    ≡ b) [ true ↦ rw (eqb_self c.cid) refl | false ↦ none ]
follows_at slots (m ∷ mid) c xs h k =
    let two = or_none (eqb c.cid m.cid) (contains c.cid (cids mid)) h in
    let ih = follows_at (minus slots m.slots) mid c xs two.1 k in
    elim (meets slots m.slots) as (λ b. contains c.cid
    (cond b (m.cid ∷ followers (minus slots m.slots) (mid ++ c ∷ xs))
    (followers (minus slots m.slots) (mid ++ c ∷ xs)))
    ≡ meets (untaken (minus slots m.slots) mid) c.slots) [ true ↦ rw two.0 ih | false ↦ ih ]

-- how many of these commands one that joins stands directly behind
abbrev pub directly : Command → List Command → ℕ
directly c [] = 0
directly c (b ∷ bs) = cond (meets (untaken b.slots bs) c.slots) 1 0 + directly c bs

pub Lacks-ahead : (x : ℕ) (cs : List Command) → Lacks x cs → ahead_of x cs ≡ 0
Lacks-ahead x [] h = refl
Lacks-ahead x (c ∷ cs) h =
    let two = or_none (eqb x c.cid) (contains x (cids cs)) h in
    rw (Lacks-followers x c.slots cs two.1, Lacks-ahead x cs two.1) refl

-- those behind a command do not count
pub ahead_at : (bs : List Command) (c : Command) (xs : List Command) → Distinct (bs ++ c ∷ xs)
    → ahead_of c.cid (bs ++ c ∷ xs) ≡ directly c bs
ahead_at [] c xs h = rw (Lacks-followers c.cid c.slots xs h.0, Lacks-ahead c.cid xs h.0) refl
ahead_at (b ∷ bs) c xs h =
    let parts = Distinct-around (b ∷ bs) c xs h in
    let two = or_none (eqb c.cid b.cid) (contains c.cid (cids bs)) parts.0 in
    let ih = ahead_at bs c xs h.1 in
    rw (follows_at b.slots bs c xs two.1 parts.1, ih) refl

push_step : (x y : ℕ) (a b : Bool) → eqb x y ≡ false → (a || contains x (cond b (y ∷ []) [])) ≡ a
push_step x y a true h = rw h (or_false a)
push_step x y a false h = or_false a

-- one that joins changes no other's count
pub ahead-push : (x : ℕ) (cs : List Command) (c : Command) → eqb x c.cid ≡ false
    → ahead_of x (cs ++ c ∷ []) ≡ ahead_of x cs
ahead-push x [] c h = refl
ahead-push x (d ∷ cs) c h =
    let same : contains x (followers d.slots (cs ++ c ∷ [])) ≡ contains x (followers d.slots cs) =
    ap (contains x) (followers-push d.slots cs c)
    ∙ contains-append x (followers d.slots cs) (cond (meets (untaken d.slots cs) c.slots) (c.cid ∷ []) [])
    ∙ push_step x c.cid (contains x (followers d.slots cs)) (meets (untaken d.slots cs) c.slots) h in
    rw (same, ahead-push x cs c h) refl

-- where a granted command leaves, those that followed it stand behind one less
pub ahead-around : (x : ℕ) (bs : List Command) (p : Command) (xs : List Command) → blocked bs p ≡ false
    → ahead_of x (bs ++ p ∷ xs) ≡ cond (contains x (followers p.slots xs)) 1 0 + ahead_of x (bs ++ xs)
ahead-around x [] p xs free = refl
ahead-around x (b ∷ bs) p xs free =
    let two = or_none (meets b.slots p.slots) (blocked bs p) free in
    let ih = ahead-around x bs p xs two.1 in
    rw (followers-skip b.slots bs p xs two.0) (omega (arith))

-- those that share no slot with c take none from the others
pub untaken_meets : (slots : List ℕ) (cs : List Command) (c : Command) → blocked cs c ≡ false
    → meets (untaken slots cs) c.slots ≡ meets slots c.slots
untaken_meets slots [] c h = refl
untaken_meets slots (d ∷ cs) c h =
    let two = or_none (meets d.slots c.slots) (blocked cs c) h in
    untaken_meets (minus slots d.slots) cs c two.1 ∙ minus_meets slots d.slots c.slots two.0

directly_step : (m n b : Bool) (k : ℕ) → eqb k 0 ≡ not b → (b ≡ false → m ≡ n) → eqb (cond m 1 0 + k) 0 ≡ not (n || b)
directly_step m n true k h f = grind (arith, nat_tests)
directly_step m n false k h f = grind (arith, nat_tests)

pub directly_none : (c : Command) (bs : List Command) → eqb (directly c bs) 0 ≡ not (blocked bs c)
directly_none c [] = refl
directly_none c (b ∷ bs) =
    directly_step (meets (untaken b.slots bs) c.slots) (meets b.slots c.slots) (blocked bs c) (directly c bs)
    (directly_none c bs) (λ h. untaken_meets b.slots bs c h)

-- a command is granted where no earlier one shares a slot with it
pub granted_at : (earlier bs : List Command) (c : Command) (xs : List Command) → Distinct (bs ++ c ∷ xs)
    → contains c.cid (cids (granted_behind earlier (bs ++ c ∷ xs))) ≡ not (blocked (earlier ++ bs) c)
granted_at earlier [] c xs h =
    let lacks : Lacks c.cid (granted_behind (earlier ++ c ∷ []) xs) =
    subst (Lacks c.cid) (sym (granted_behind_is (earlier ++ c ∷ []) xs))
    (Lacks-filter c.cid (λ d. not (blocked (earlier ++ c ∷ []) d)) (granted xs) (Lacks-granted c.cid xs h.0)) in
    rw (append-nil earlier)
    (elim (blocked earlier c) as (λ b. contains c.cid
    (cids (cond b (granted_behind (earlier ++ c ∷ []) xs) (c ∷ granted_behind (earlier ++ c ∷ []) xs)))
    ≡ not b) [ true ↦ lacks | false ↦ rw (eqb_self c.cid) refl ])
granted_at earlier (b ∷ bs) c xs h =
    let parts = Distinct-around (b ∷ bs) c xs h in
    let two = or_none (eqb c.cid b.cid) (contains c.cid (cids bs)) parts.0 in
    let ih : contains c.cid (cids (granted_behind (earlier ++ b ∷ []) (bs ++ c ∷ xs)))
    ≡ not (blocked (earlier ++ b ∷ bs) c) =
    granted_at (earlier ++ b ∷ []) bs c xs h.1 ∙ ap (λ l. not (blocked l c)) (append_assoc earlier (b ∷ []) bs) in
    elim (blocked earlier b) as (λ d. contains c.cid
    (cids (cond d (granted_behind (earlier ++ b ∷ []) (bs ++ c ∷ xs)) (b
    ∷ granted_behind (earlier ++ b ∷ []) (bs ++ c ∷ xs)))) ≡ not (blocked (earlier ++ b ∷ bs) c)) [
      | true ↦ ih
      | false ↦ rw two.0 ih
    ]

pub is_granted_at : (bs : List Command) (c : Command) (xs : List Command) → Distinct (bs ++ c ∷ xs)
    → is_granted (bs ++ c ∷ xs) c.cid ≡ not (blocked bs c)
is_granted_at bs c xs h = granted_at [] bs c xs h

-- the count tells
pub ahead_tells : (bs : List Command) (c : Command) (xs : List Command) → Distinct (bs ++ c ∷ xs)
    → eqb (ahead_of c.cid (bs ++ c ∷ xs)) 0 ≡ is_granted (bs ++ c ∷ xs) c.cid
ahead_tells bs c xs h = ap (λ n. eqb n 0) (ahead_at bs c xs h) ∙ directly_none c bs ∙ sym (is_granted_at bs c xs h)
