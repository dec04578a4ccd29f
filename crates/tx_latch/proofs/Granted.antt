-- Which commands are granted, and which become so when a granted one leaves.
use Rattle.std.proofs.Common.{◌≡◌, ℕ, Bool, true, false, cond, not, ◌||◌, ◌&&◌, eqb, List, [], ◌∷◌, ◌++◌, refl, sym, ap, ◌∙◌, subst}
use Rattle.std.specs.List.{filter}
use Rattle.std.proofs.lemmas.List.{map-append}
use Rattle.std.proofs.lemmas.Bool.{eqb-true}
use Rattle.std.proofs.lemmas.List.Elements.{filter_agree, filter-append}
use Rattle.std.proofs.lemmas.List.Folds.{list_any-append}
use Rattle.tx_latch.specs.Asked.{Command, contains, meets, blocked, granted_behind, granted, cids, is_granted, newly_granted, without, Lacks, Distinct}
use Rattle.tx_latch.proofs.Lists.{meets_mutual, filter_and, filter_agree_each, Each, Each_both, not_or, or_false, or_none, eqb_self, same_eqb, contains-append, filter_swap, not_not}

pub blocked-append : (xs ys : List Command) (c : Command) → blocked (xs ++ ys) c ≡ (blocked xs c || blocked ys c)
blocked-append xs ys c = list_any-append (λ e. meets e.slots c.slots) xs ys

first_step : (c : Command) (b : Bool) (xs ys : List Command) → ys ≡ xs → cond b xs (c ∷ xs) ≡ cond (not b) (c ∷ ys) ys
first_step c true xs ys e = sym e
first_step c false xs ys e = ap (λ t. c ∷ t) (sym e)

-- the granted ones of a list are those of it alone that the earlier ones leave free
pub granted_behind_is : (earlier cs : List Command)
    → granted_behind earlier cs ≡ filter (λ c. not (blocked earlier c)) (granted cs)
granted_behind_is earlier [] = refl
granted_behind_is earlier (c ∷ cs) =
    let ih : granted_behind (earlier ++ c ∷ []) cs ≡ filter (λ d. not (blocked (earlier ++ c ∷ []) d)) (granted cs) =
    granted_behind_is (earlier ++ c ∷ []) cs in
    let alone : granted_behind (c ∷ []) cs ≡ filter (λ d. not (blocked (c ∷ []) d)) (granted cs) =
    granted_behind_is (c ∷ []) cs in
    let both : filter (λ d. not (blocked earlier d)) (granted_behind (c ∷ []) cs)
    ≡ granted_behind (earlier ++ c ∷ []) cs =
    ap (filter (λ d. not (blocked earlier d))) alone
    ∙ filter_and (λ d. not (blocked earlier d)) (λ d. not (blocked (c ∷ []) d)) (granted cs)
    ∙ filter_agree (λ d. not (blocked earlier d)
    && not (blocked (c ∷ []) d)) (λ d. not (blocked (earlier ++ c ∷ []) d))
    (λ d. not_or (blocked earlier d) (blocked (c ∷ []) d)
    ∙ ap not (sym (blocked-append earlier (c ∷ []) d))) (granted cs)
    ∙ sym ih in
    first_step c (blocked earlier c) (granted_behind (earlier ++ c ∷ []) cs)
    (filter (λ d. not (blocked earlier d)) (granted_behind (c ∷ []) cs)) both

-- the first of a list is granted, and of the later ones those that are granted there and
-- share no slot with it
pub granted-cons : (c : Command) (cs : List Command)
    → granted (c ∷ cs) ≡ c ∷ filter (λ d. not (meets c.slots d.slots)) (granted cs)
granted-cons c cs =
    ap (λ t. c ∷ t) (granted_behind_is (c ∷ []) cs
    ∙ filter_agree (λ d. not (blocked (c ∷ []) d)) (λ d. not (meets c.slots d.slots))
    (λ d. ap not (or_false (meets c.slots d.slots))) (granted cs))

-- a filter adds no number
pub Lacks-filter : (x : ℕ) (p : Command → Bool) (cs : List Command) → Lacks x cs → Lacks x (filter p cs)
Lacks-filter x p [] h = refl
Lacks-filter x p (c ∷ cs) h =
    let parts = or_none (eqb x c.cid) (contains x (cids cs)) h in
    let rest : Lacks x (filter p cs) = Lacks-filter x p cs parts.1 in
    elim (p c) as (λ b. Lacks x (cond b (c ∷ filter p cs) (filter p cs))) [ true ↦ rw parts.0 rest | false ↦ rest ]

pub Lacks-granted : (x : ℕ) (cs : List Command) → Lacks x cs → Lacks x (granted cs)
Lacks-granted x [] h = refl
Lacks-granted x (c ∷ cs) h =
    let parts = or_none (eqb x c.cid) (contains x (cids cs)) h in
    let rest : Lacks x (filter (λ d. not (meets c.slots d.slots)) (granted cs)) =
    Lacks-filter x (λ d. not (meets c.slots d.slots)) (granted cs) (Lacks-granted x cs parts.1) in
    subst (Lacks x) (sym (granted-cons c cs)) (rw parts.0 rest)

pub Distinct-filter : (p : Command → Bool) (cs : List Command) → Distinct cs → Distinct (filter p cs)
Distinct-filter p [] h = tt
Distinct-filter p (c ∷ cs) h =
    let rest : Distinct (filter p cs) = Distinct-filter p cs h.1 in
    let lacks : Lacks c.cid (filter p cs) = Lacks-filter c.cid p cs h.0 in
    elim (p c) as (λ b. Distinct (cond b (c ∷ filter p cs) (filter p cs))) [ true ↦ (lacks, rest) | false ↦ rest ]

pub Distinct-granted : (cs : List Command) → Distinct cs → Distinct (granted cs)
Distinct-granted [] h = tt
Distinct-granted (c ∷ cs) h =
    subst Distinct (sym (granted-cons c cs))
    (let q : Command → Bool = λ d. not (meets c.slots d.slots) in (
      Lacks-filter c.cid q (granted cs) (Lacks-granted c.cid cs h.0),
      Distinct-filter q (granted cs) (Distinct-granted cs h.1),
    ))

pub cids-append : (xs ys : List Command) → cids (xs ++ ys) ≡ cids xs ++ cids ys
cids-append xs ys = map-append (λ c. c.cid) xs ys

pub Lacks-append : (x : ℕ) (xs ys : List Command) → Lacks x (xs ++ ys) → Lacks x xs × Lacks x ys
Lacks-append x xs ys h =
    or_none (contains x (cids xs)) (contains x (cids ys))
    (sym (ap (contains x) (cids-append xs ys) ∙ contains-append x (cids xs) (cids ys)) ∙ h)

pub Lacks-both : (x : ℕ) (xs ys : List Command) → Lacks x xs → Lacks x ys → Lacks x (xs ++ ys)
Lacks-both x xs ys h k = ap (contains x) (cids-append xs ys) ∙ contains-append x (cids xs) (cids ys) ∙ rw (h, k) refl

-- the parts of a list around one of its commands lack its number
pub Distinct-around : (bs : List Command) (p : Command) (xs : List Command) → Distinct (bs ++ p ∷ xs)
    → Lacks p.cid bs × Lacks p.cid xs × Distinct (bs ++ xs)
Distinct-around [] p xs h = (refl, h.0, h.1)
Distinct-around (b ∷ bs) p xs h =
    let rest = Distinct-around bs p xs h.1 in
    let split = Lacks-append b.cid bs (p ∷ xs) h.0 in
    let two = or_none (eqb b.cid p.cid) (contains b.cid (cids xs)) split.1 in (
      (let e : eqb p.cid b.cid ≡ false = same_eqb p.cid b.cid ∙ two.0 in rw e rest.0),
      rest.1,
      (Lacks-both b.cid bs xs split.0 two.1, rest.2),
    )

-- a list with no command of a number stays without it
pub without-Lacks : (x : ℕ) (cs : List Command) → Lacks x cs → without x cs ≡ cs
without-Lacks x [] h = refl
without-Lacks x (c ∷ cs) h =
    let parts = or_none (eqb x c.cid) (contains x (cids cs)) h in
    rw (parts.0, without-Lacks x cs parts.1) refl

-- a list with one command of a number loses just that
pub without-around : (bs : List Command) (p : Command) (xs : List Command) → Distinct (bs ++ p ∷ xs)
    → without p.cid (bs ++ p ∷ xs) ≡ bs ++ xs
without-around bs p xs h =
    let parts = Distinct-around bs p xs h in
    filter-append (λ c. not (eqb p.cid c.cid)) bs (p ∷ xs)
    ∙ rw (without-Lacks p.cid bs parts.0, eqb_self p.cid, without-Lacks p.cid xs parts.1) refl

-- where a granted command leaves, the others that were granted are those that are granted now and
-- share no slot with it
pub granted-around : (bs : List Command) (p : Command) (xs : List Command) → Distinct (bs ++ p ∷ xs)
    → blocked bs p ≡ false
    → without p.cid (granted (bs ++ p ∷ xs)) ≡ filter (λ c. not (meets p.slots c.slots)) (granted (bs ++ xs))
granted-around [] p xs h free =
    let q : Command → Bool = λ c. not (meets p.slots c.slots) in
    ap (without p.cid) (granted-cons p xs)
    ∙ rw (eqb_self p.cid)
    (without-Lacks p.cid (filter q (granted xs)) (Lacks-filter p.cid q (granted xs) (Lacks-granted p.cid xs h.0)))
granted-around (b ∷ bs) p xs h free =
    let two = or_none (meets b.slots p.slots) (blocked bs p) free in
    let ih = granted-around bs p xs h.1 two.1 in
    let q : Command → Bool = λ c. not (meets p.slots c.slots) in
    let r : Command → Bool = λ c. not (meets b.slots c.slots) in
    let w : Command → Bool = λ c. not (eqb p.cid c.cid) in
    let apart : eqb p.cid b.cid ≡ false =
    (or_none (eqb p.cid b.cid) (contains p.cid (cids bs)) (Distinct-around (b ∷ bs) p xs h).0).0 in
    let other : meets p.slots b.slots ≡ false = meets_mutual p.slots b.slots ∙ two.0 in
    let inner : filter w (filter r (granted (bs ++ p ∷ xs))) ≡ filter q (filter r (granted (bs ++ xs))) =
    filter_swap w r (granted (bs ++ p ∷ xs)) ∙ ap (filter r) ih ∙ filter_swap r q (granted (bs ++ xs)) in
    let left : filter w (b ∷ filter r (granted (bs ++ p ∷ xs))) ≡ b ∷ filter q (filter r (granted (bs ++ xs))) =
    rw apart (ap (λ t. b ∷ t) inner) in
    let right : filter q (b ∷ filter r (granted (bs ++ xs))) ≡ b ∷ filter q (filter r (granted (bs ++ xs))) =
    rw other refl in
    ap (without p.cid) (granted-cons b (bs ++ p ∷ xs)) ∙ left ∙ sym (ap (filter q) (granted-cons b (bs ++ xs)) ∙ right)

pub Each-Lacks : (x : ℕ) (cs : List Command) → Lacks x cs → Each (λ c. eqb x c.cid ≡ false) cs
Each-Lacks x [] h = tt
Each-Lacks x (c ∷ cs) h = let parts = or_none (eqb x c.cid) (contains x (cids cs)) h in
    (parts.0, Each-Lacks x cs parts.1)

contains_without_step : (x y : ℕ) (c : Command) (l cs : List Command) (b : Bool) → eqb x c.cid ≡ b → eqb x y ≡ false
    → contains y (cids l) ≡ contains y (cids cs)
    → contains y (cids (cond (not b) (c ∷ l) l)) ≡ (eqb y c.cid || contains y (cids cs))
contains_without_step x y c l cs true e h ih =
    let same : x ≡ c.cid = eqb-true x c.cid e in
    let apart : eqb y c.cid ≡ false = same_eqb y c.cid ∙ ap (λ n. eqb n y) (sym same) ∙ h in
    rw apart ih
contains_without_step x y c l cs false e h ih = ap (λ b. eqb y c.cid || b) ih

-- another number is found or not as before
pub contains-without : (x y : ℕ) (cs : List Command) → eqb x y ≡ false
    → contains y (cids (without x cs)) ≡ contains y (cids cs)
contains-without x y [] h = refl
contains-without x y (c ∷ cs) h =
    contains_without_step x y c (without x cs) cs (eqb x c.cid) refl h (contains-without x y cs h)

member_step : (c d : Command) (b : Bool) (l : List Command) → eqb c.cid d.cid ≡ false
    → contains d.cid (cids (cond b (c ∷ l) l)) ≡ contains d.cid (cids l)
member_step c d true l h = let e : eqb d.cid c.cid ≡ false = same_eqb d.cid c.cid ∙ h in rw e refl
member_step c d false l h = refl

-- in a list with no two commands of one number, the filtered ones are told by their numbers
pub member-filter : (q : Command → Bool) (cs : List Command) → Distinct cs
    → Each (λ c. contains c.cid (cids (filter q cs)) ≡ q c) cs
member-filter q [] h = tt
member-filter q (c ∷ cs) h =
    let lacks : Lacks c.cid (filter q cs) = Lacks-filter c.cid q cs h.0 in
    let head : contains c.cid (cids (cond (q c) (c ∷ filter q cs) (filter q cs))) ≡ q c =
    elim (q c) as (λ b. contains c.cid (cids (cond b (c ∷ filter q cs) (filter q cs)))
    ≡ b) [ true ↦ rw (eqb_self c.cid) refl | false ↦ lacks ] in
    let tail = Each_both (λ d. eqb c.cid d.cid ≡ false) (λ d. contains d.cid (cids (filter q cs))
    ≡ q d) (λ d. contains d.cid (cids (filter q (c ∷ cs))) ≡ q d)
    (λ d apart same. member_step c d (q c) (filter q cs) apart
    ∙ same) cs (Each-Lacks c.cid cs h.0) (member-filter q cs h.1) in
    (head, tail)

-- where a granted command leaves, those become granted that are granted now and
-- share a slot with it
pub newly-around : (bs : List Command) (p : Command) (xs : List Command) → Distinct (bs ++ p ∷ xs)
    → blocked bs p ≡ false
    → newly_granted (bs ++ p ∷ xs) (bs ++ xs) ≡ cids (filter (λ c. meets p.slots c.slots) (granted (bs ++ xs)))
newly-around bs p xs h free =
    let parts = Distinct-around bs p xs h in
    let now : List Command = granted (bs ++ xs) in
    let q : Command → Bool = λ c. not (meets p.slots c.slots) in
    let apart : Each (λ c. eqb p.cid c.cid ≡ false) now =
    Each-Lacks p.cid now (Lacks-granted p.cid (bs ++ xs) (Lacks-both p.cid bs xs parts.0 parts.1)) in
    let told : Each (λ c. contains c.cid (cids (filter q now)) ≡ q c) now =
    member-filter q now (Distinct-granted (bs ++ xs) parts.2) in
    let each = Each_both (λ c. eqb p.cid c.cid ≡ false) (λ c. contains c.cid (cids (filter q now))
    ≡ q c) (λ c. not (is_granted (bs ++ p ∷ xs) c.cid) ≡ meets p.slots c.slots)
    (λ c e t. ap not (sym (contains-without p.cid c.cid (granted (bs ++ p ∷ xs)) e)
    ∙ ap (λ l. contains c.cid (cids l)) (granted-around bs p xs h free) ∙ t)
    ∙ not_not (meets p.slots c.slots)) now apart told in
    ap cids (filter_agree_each (λ c. not (is_granted (bs ++ p ∷ xs) c.cid)) (λ c. meets p.slots c.slots) now each)
