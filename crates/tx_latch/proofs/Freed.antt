-- Which commands become granted, by those that follow the one that leaves
use Rattle.std.proofs.Common.{◌≡◌, ℕ, Bool, true, false, cond, not, List, [], ◌∷◌, ◌++◌, refl, sym, ap, ◌∙◌, subst, append_assoc}
use Rattle.std.specs.List.{filter}
use Rattle.std.proofs.lemmas.List.{append-nil}
use Rattle.std.proofs.lemmas.List.Elements.{filter-append}
use Rattle.tx_latch.specs.Asked.{Command, meets, granted_behind, granted, cids, is_granted, newly_granted, blocked, Distinct}
use Rattle.tx_latch.specs.Queues.{minus, followers}
use Rattle.tx_latch.proofs.Lists.{or_none, filter_swap, meets_mutual, or_false}
use Rattle.tx_latch.proofs.Granted.{blocked-append, Distinct-around, granted-cons, newly-around}
use Rattle.tx_latch.proofs.Links.{minus_meets}
use Rattle.tx_latch.proofs.Ahead.{is_granted_at}

pub granted_behind-append : (earlier xs ys : List Command)
    → granted_behind earlier (xs ++ ys) ≡ granted_behind earlier xs ++ granted_behind (earlier ++ xs) ys
granted_behind-append earlier [] ys = ap (λ l. granted_behind l ys) (sym (append-nil earlier))
granted_behind-append earlier (x ∷ xs) ys =
    let ih : granted_behind (earlier ++ x ∷ []) (xs ++ ys) ≡ granted_behind (earlier ++ x ∷ []) xs
    ++ granted_behind (earlier ++ x ∷ xs) ys =
    granted_behind-append (earlier ++ x ∷ []) xs ys
    ∙ ap (λ l. granted_behind (earlier ++ x ∷ []) xs ++ granted_behind l ys) (append_assoc earlier (x ∷ []) xs) in
    elim (blocked earlier x) as (λ b. cond b (granted_behind (earlier ++ x ∷ []) (xs ++ ys)) (x
    ∷ granted_behind (earlier ++ x ∷ []) (xs ++ ys))
    ≡ cond b (granted_behind (earlier ++ x ∷ []) xs) (x ∷ granted_behind (earlier ++ x ∷ []) xs)
    ++ granted_behind (earlier ++ x ∷ xs) ys)
    [ true ↦ ih | false ↦ ap (λ t. x ∷ t) ih ]

-- a command that is free of these shares no slot with the granted ones of them
pub granted_apart : (bs : List Command) (p : Command) → blocked bs p ≡ false
    → filter (λ c. meets p.slots c.slots) (granted bs) ≡ []
granted_apart [] p h = refl
granted_apart (b ∷ bs) p h =
    let two = or_none (meets b.slots p.slots) (blocked bs p) h in
    let other : meets p.slots b.slots ≡ false = meets_mutual p.slots b.slots ∙ two.0 in
    let q : Command → Bool = λ c. meets p.slots c.slots in
    let r : Command → Bool = λ c. not (meets b.slots c.slots) in
    let inner : filter q (filter r (granted bs)) ≡ [] =
    filter_swap q r (granted bs) ∙ ap (filter r) (granted_apart bs p two.1) in
    ap (filter q) (granted-cons b bs) ∙ rw other inner

freed_step : (g : ℕ → Bool) (h : Command → Bool) (c : Command) (m b : Bool) (ids : List ℕ) (cs : List Command)
    → g c.cid ≡ not b → (b ≡ false → m ≡ h c) → filter g ids ≡ cids (filter h cs)
    → filter g (cond m (c.cid ∷ ids) ids) ≡ cids (filter h (cond b cs (c ∷ cs)))
freed_step g h c true true ids cs e f ih = rw e ih
freed_step g h c false true ids cs e f ih = ih
freed_step g h c true false ids cs e f ih = let is : h c ≡ true = sym (f refl) in rw (e, is) (ap (λ t. c.cid ∷ t) ih)
freed_step g h c false false ids cs e f ih = let is : h c ≡ false = sym (f refl) in rw is ih

-- of the followers those are granted that are granted at all and share a slot
pub followers_granted : (asked before later : List Command) (slots : List ℕ) (p : Command) → asked ≡ before ++ later
    → Distinct asked
    → ((c : Command) → blocked before c ≡ false → meets slots c.slots ≡ meets p.slots c.slots)
    → filter (is_granted asked) (followers slots later)
    ≡ cids (filter (λ c. meets p.slots c.slots) (granted_behind before later))
followers_granted asked before [] slots p e d agree = refl
followers_granted asked before (c ∷ later) slots p e d agree =
    let there : is_granted asked c.cid ≡ not (blocked before c) =
    ap (λ l. is_granted l c.cid) e ∙ is_granted_at before c later (subst Distinct e d) in
    let ih = followers_granted asked (before ++ c ∷ []) later (minus slots c.slots) p (e
    ∙ sym (append_assoc before (c ∷ []) later)) d
    (λ x free.
    let two = or_none (blocked before x) (blocked (c ∷ []) x) (sym (blocked-append before (c ∷ []) x) ∙ free) in
    minus_meets slots c.slots x.slots (sym (or_false (meets c.slots x.slots)) ∙ two.1) ∙ agree x two.0) in
    freed_step (is_granted asked) (λ x. meets p.slots x.slots) c (meets slots c.slots) (blocked before c)
    (followers (minus slots c.slots) later) (granted_behind (before ++ c ∷ []) later) there (agree c) ih

-- where a granted command leaves, its followers that are granted now are those that become granted
pub freed-around : (bs : List Command) (p : Command) (xs : List Command) → Distinct (bs ++ p ∷ xs)
    → blocked bs p ≡ false
    → filter (is_granted (bs ++ xs)) (followers p.slots xs) ≡ newly_granted (bs ++ p ∷ xs) (bs ++ xs)
freed-around bs p xs h free =
    let parts = Distinct-around bs p xs h in
    let q : Command → Bool = λ c. meets p.slots c.slots in
    let split : filter q (granted (bs ++ xs)) ≡ filter q (granted_behind bs xs) =
    ap (filter q) (granted_behind-append [] bs xs) ∙ filter-append q (granted bs) (granted_behind bs xs)
    ∙ ap (λ l. l ++ filter q (granted_behind bs xs)) (granted_apart bs p free) in
    followers_granted (bs ++ xs) bs xs p.slots p refl parts.2 (λ c f. refl)
    ∙ sym (newly-around bs p xs h free ∙ ap cids split)
