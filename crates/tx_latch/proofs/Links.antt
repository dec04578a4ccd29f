-- What the queues of the slots tell of the list that was asked.
use Rattle.std.proofs.Common.{◌≡◌, ℕ, Bool, true, false, cond, not, ◌||◌, ◌&&◌, eqb, List, [], ◌∷◌, ◌++◌, Option, None, Some, refl, sym, ap, ◌∙◌}
use Rattle.std.proofs.lemmas.Bool.{eqb-true}
use Rattle.tx_latch.specs.Asked.{Command, contains, meets}
use Rattle.tx_latch.specs.Queues.{minus, untaken, followers, or_else, last_in}
use Rattle.tx_latch.proofs.Lists.{or_none, and_swap}

apart_step : (x y : ℕ) (ys zs : List ℕ) (b : Bool) → eqb x y ≡ b → (b || contains x ys) ≡ true → contains y zs ≡ false
    → meets ys zs ≡ false → (contains x ys ≡ true → contains x zs ≡ false) → contains x zs ≡ false
apart_step x y ys zs true e h k m ih = ap (λ n. contains n zs) (eqb-true x y e) ∙ k
apart_step x y ys zs false e h k m ih = ih h

-- a slot of one of two sets that share none is not in the other
pub apart_at : (x : ℕ) (ys zs : List ℕ) → contains x ys ≡ true → meets ys zs ≡ false → contains x zs ≡ false
apart_at x [] zs h k = absurd (cc)
apart_at x (y ∷ ys) zs h k = let two = or_none (contains y zs) (meets ys zs) k in
    apart_step x y ys zs (eqb x y) refl h two.0 two.1 (λ m. apart_at x ys zs m two.1)

-- a set that shares no slot with the taken ones loses nothing
pub minus_keeps : (xs ys : List ℕ) → meets xs ys ≡ false → minus xs ys ≡ xs
minus_keeps [] ys h = refl
minus_keeps (x ∷ xs) ys h = let two = or_none (contains x ys) (meets xs ys) h in
    rw (two.0, minus_keeps xs ys two.1) refl

-- a set that shares no slot shares none when it loses some
pub minus_apart : (xs ys zs : List ℕ) → meets xs zs ≡ false → meets (minus xs ys) zs ≡ false
minus_apart [] ys zs h = refl
minus_apart (x ∷ xs) ys zs h =
    let two = or_none (contains x zs) (meets xs zs) h in
    let rest : meets (minus xs ys) zs ≡ false = minus_apart xs ys zs two.1 in
    elim (contains x ys) as (λ b. meets (cond (not b) (x ∷ minus xs ys) (minus xs ys)) zs ≡ false) [
      | true ↦ rest
      | false ↦ rw two.0 rest
    ]

minus_meets_step : (x : ℕ) (xs ys zs : List ℕ) (b : Bool) → contains x ys ≡ b → meets ys zs ≡ false
    → meets (minus xs ys) zs ≡ meets xs zs
    → meets (cond (not b) (x ∷ minus xs ys) (minus xs ys)) zs ≡ (contains x zs || meets xs zs)
minus_meets_step x xs ys zs true e h ih = let n : contains x zs ≡ false = apart_at x ys zs e h in rw n ih
minus_meets_step x xs ys zs false e h ih = ap (λ b. contains x zs || b) ih

-- what shares no slot with the taken ones meets the rest as it met the whole
pub minus_meets : (xs ys zs : List ℕ) → meets ys zs ≡ false → meets (minus xs ys) zs ≡ meets xs zs
minus_meets [] ys zs h = refl
minus_meets (x ∷ xs) ys zs h = minus_meets_step x xs ys zs (contains x ys) refl h (minus_meets xs ys zs h)

contains_minus_step : (s x : ℕ) (ys ms xs : List ℕ) (b d : Bool) → contains x ys ≡ b → eqb s x ≡ d
    → contains s ms ≡ (contains s xs && not (contains s ys))
    → contains s (cond (not b) (x ∷ ms) ms) ≡ ((d || contains s xs) && not (contains s ys))
contains_minus_step s x ys ms xs true true e f ih =
    let at : contains s ys ≡ true = ap (λ n. contains n ys) (eqb-true s x f) ∙ e in
    ih ∙ rw at (and_swap (contains s xs) false)
contains_minus_step s x ys ms xs true false e f ih = ih
contains_minus_step s x ys ms xs false true e f ih =
    let at : contains s ys ≡ false = ap (λ n. contains n ys) (eqb-true s x f) ∙ e in
    rw (f, at) refl
contains_minus_step s x ys ms xs false false e f ih = rw f ih

pub contains_minus : (s : ℕ) (xs ys : List ℕ) → contains s (minus xs ys) ≡ (contains s xs && not (contains s ys))
contains_minus s [] ys = refl
contains_minus s (x ∷ xs) ys =
    contains_minus_step s x ys (minus xs ys) xs (contains x ys) (eqb s x) refl refl (contains_minus s xs ys)

-- one more command at the end
pub followers-push : (slots : List ℕ) (cs : List Command) (c : Command)
    → followers slots (cs ++ c ∷ []) ≡ followers slots cs ++ cond (meets (untaken slots cs) c.slots) (c.cid ∷ []) []
followers-push slots [] c = refl
followers-push slots (d ∷ cs) c =
    let ih = followers-push (minus slots d.slots) cs c in
    elim (meets slots d.slots) as (λ b. cond b (d.cid
    ∷ followers (minus slots d.slots) (cs ++ c ∷ [])) (followers (minus slots d.slots) (cs ++ c ∷ []))
    ≡ cond b (d.cid ∷ followers (minus slots d.slots) cs) (followers (minus slots d.slots) cs)
    ++ cond (meets (untaken (minus slots d.slots) cs) c.slots) (c.cid ∷ []) [])
    [ true ↦ ap (λ t. d.cid ∷ t) ih | false ↦ ih ]

-- a command that shares no slot counts for nothing
pub followers-skip : (slots : List ℕ) (mid : List Command) (p : Command) (xs : List Command)
    → meets slots p.slots ≡ false → followers slots (mid ++ p ∷ xs) ≡ followers slots (mid ++ xs)
followers-skip slots [] p xs h = rw (h, minus_keeps slots p.slots h) refl
followers-skip slots (m ∷ mid) p xs h =
    let ih = followers-skip (minus slots m.slots) mid p xs (minus_apart slots m.slots p.slots h) in
    ap (λ t. cond (meets slots m.slots) (m.cid ∷ t) t) ih

or_else_none : (a : Option ℕ) → or_else a None ≡ a
or_else_none None = refl
or_else_none (Some x) = refl

or_else_assoc : (a b c : Option ℕ) → or_else (or_else a b) c ≡ or_else a (or_else b c)
or_else_assoc None b c = refl
or_else_assoc (Some x) b c = refl

pub last_in-append : (xs ys : List Command) (s : ℕ) → last_in (xs ++ ys) s ≡ or_else (last_in ys s) (last_in xs s)
last_in-append [] ys s = sym (or_else_none (last_in ys s))
last_in-append (x ∷ xs) ys s =
    ap (λ t. or_else t (cond (contains s x.slots) (Some x.cid) None)) (last_in-append xs ys s)
    ∙ or_else_assoc (last_in ys s) (last_in xs s) (cond (contains s x.slots) (Some x.cid) None)
