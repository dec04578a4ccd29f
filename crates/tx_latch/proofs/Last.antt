-- The last command in a slot, as commands join and leave.
use Rattle.std.proofs.Common.{◌≡◌, ℕ, Bool, true, false, cond, not, ◌&&◌, eqb, List, [], ◌∷◌, ◌++◌, Option, None, Some, refl, sym, ap, ◌∙◌}
use Rattle.tx_latch.specs.Asked.{Command, contains, meets, cids, blocked, Lacks, Distinct}
use Rattle.tx_latch.specs.Queues.{minus, untaken, or_else, last_in, is_number}
use Rattle.tx_latch.proofs.Lists.{or_none, eqb_self, meets_mutual}
use Rattle.tx_latch.proofs.Granted.{Distinct-around}
use Rattle.tx_latch.proofs.Links.{contains_minus, last_in-append, apart_at}

-- the command that joins is the last in each of its slots
pub last_in-push : (cs : List Command) (c : Command) (s : ℕ)
    → last_in (cs ++ c ∷ []) s ≡ cond (contains s c.slots) (Some c.cid) (last_in cs s)
last_in-push cs c s =
    last_in-append cs (c ∷ []) s
    ∙ elim (contains s c.slots) as (λ b. or_else (cond b (Some c.cid) None) (last_in cs s)
    ≡ cond b (Some c.cid) (last_in cs s)) [ true ↦ refl | false ↦ refl ]

lacks_step : (x y : ℕ) (o : Option ℕ) (b : Bool) → is_number x o ≡ false → eqb x y ≡ false
    → is_number x (or_else o (cond b (Some y) None)) ≡ false
lacks_step x y None true h k = k
lacks_step x y None false h k = refl
lacks_step x y (Some z) b h k = h

-- the last in a slot is one of the list
pub last_in-lacks : (x : ℕ) (cs : List Command) (s : ℕ) → Lacks x cs → is_number x (last_in cs s) ≡ false
last_in-lacks x [] s h = refl
last_in-lacks x (c ∷ cs) s h =
    let two = or_none (eqb x c.cid) (contains x (cids cs)) h in
    lacks_step x c.cid (last_in cs s) (contains s c.slots) (last_in-lacks x cs s two.1) two.0

-- none stands in the slots of a command that is free of them
pub last_in-free : (bs : List Command) (p : Command) (s : ℕ) → contains s p.slots ≡ true → blocked bs p ≡ false
    → last_in bs s ≡ None
last_in-free [] p s h free = refl
last_in-free (b ∷ bs) p s h free =
    let two = or_none (meets b.slots p.slots) (blocked bs p) free in
    let none : contains s b.slots ≡ false = apart_at s p.slots b.slots h (meets_mutual p.slots b.slots ∙ two.0) in
    rw (last_in-free bs p s h two.1, none) refl

is_none : Option ℕ → Bool
is_none None = true
is_none (Some x) = false

and_true : (a : Bool) → (a && true) ≡ a
and_true true = refl
and_true false = refl

none_step : (a b : Bool) (y : ℕ) (o : Option ℕ)
    → ((a && not b) && is_none o) ≡ (a && is_none (or_else o (cond b (Some y) None)))
unfolding is_none
none_step true true y None = refl
none_step true false y None = refl
none_step true true y (Some z) = refl
none_step true false y (Some z) = refl
none_step false b y o = refl

-- a slot is left over by the later ones exactly where none of them has it
contains_untaken : (s : ℕ) (slots : List ℕ) (cs : List Command)
    → contains s (untaken slots cs) ≡ (contains s slots && is_none (last_in cs s))
unfolding is_none
contains_untaken s slots [] = sym (and_true (contains s slots))
contains_untaken s slots (c ∷ cs) =
    contains_untaken s (minus slots c.slots) cs
    ∙ ap (λ b. b && is_none (last_in cs s)) (contains_minus s slots c.slots)
    ∙ none_step (contains s slots) (contains s c.slots) c.cid (last_in cs s)

at_step : (b : Bool) (x : ℕ) (o before : Option ℕ) → is_number x o ≡ false → is_number x before ≡ false
    → (b && is_none o) ≡ is_number x (or_else (or_else o (cond b (Some x) None)) before)
unfolding is_none
at_step true x None before h k = sym (eqb_self x)
at_step false x None before h k = sym k
at_step true x (Some y) before h k = sym h
at_step false x (Some y) before h k = sym h

-- a command is the last in a slot exactly where it has it and none behind it does
pub last_in-at : (bs : List Command) (e : Command) (xs : List Command) (s : ℕ) → Distinct (bs ++ e ∷ xs)
    → contains s (untaken e.slots xs) ≡ is_number e.cid (last_in (bs ++ e ∷ xs) s)
last_in-at bs e xs s h =
    let parts = Distinct-around bs e xs h in
    contains_untaken s e.slots xs
    ∙ at_step (contains s e.slots) e.cid (last_in xs s) (last_in bs s) (last_in-lacks e.cid xs s parts.1)
    (last_in-lacks e.cid bs s parts.0)
    ∙ sym (ap (is_number e.cid) (last_in-append bs (e ∷ xs) s))

around_step : (x : ℕ) (o before : Option ℕ) (b : Bool) → is_number x o ≡ false → is_number x before ≡ false
    → (b ≡ true → before ≡ None)
    → or_else o before ≡ cond (b
    && is_number x (or_else (or_else o (cond b (Some x) None)) before)) None
    (or_else (or_else o (cond b (Some x) None)) before)
around_step x None before true h k f = f refl ∙ rw (eqb_self x) refl
around_step x None before false h k f = refl
around_step x (Some y) before true h k f = rw h refl
around_step x (Some y) before false h k f = refl

-- where a granted command leaves, the slots in which it was the last are free
pub last_in-around : (bs : List Command) (p : Command) (xs : List Command) (s : ℕ) → Distinct (bs ++ p ∷ xs)
    → blocked bs p ≡ false
    → last_in (bs ++ xs) s
    ≡ cond (contains s p.slots && is_number p.cid (last_in (bs ++ p ∷ xs) s)) None (last_in (bs ++ p ∷ xs) s)
last_in-around bs p xs s h free =
    let parts = Distinct-around bs p xs h in
    last_in-append bs xs s
    ∙ around_step p.cid (last_in xs s) (last_in bs s) (contains s p.slots) (last_in-lacks p.cid xs s parts.1)
    (last_in-lacks p.cid bs s parts.0) (λ at. last_in-free bs p s at free)
    ∙ sym (ap (λ o. cond (contains s p.slots && is_number p.cid o) None o) (last_in-append bs (p ∷ xs) s))
