-- What collection drops of a region, key after key.
use Rattle.std.proofs.Common.{◌≡◌, ◌≢◌, ◌⊎◌, ◌↔◌, inl, inr, refl, sym, ap, ◌∙◌, subst, Bool, true, false, cond, not, List, [], ◌∷◌, ◌++◌, length, length-append, ℕ, suc, ◌+◌, ◌<◌, nat_eq, arith, Option, Some, None}
use Rattle.std.specs.Prelude.{IsTrue, ◌&&◌, nat_lt, Contains}
use Rattle.std.proofs.lemmas.Bool.{cases_Bool, cases_lt, lt-ltb, le-ltb, eq-eqb, eqb-true}
use Rattle.std.proofs.lemmas.List.Elements.{Contains-append_left, Contains-append_right, Contains-append_cases}
use Rattle.tx_types.specs.declared.key.Key.{Key}
use Rattle.tx_types.specs.Keys.{key_lt}
use Rattle.tx_plan.specs.Cells.{Write, Cells, no_cells, is_long}
use Rattle.tx_plan.specs.Walks.{KeyRow, AreInOrder, IsWalk, every_key}
use Rattle.tx_plan.specs.cases.Collect.{keeps, kept, commit_is, IsDropped, AllDropped, long_values}
use Rattle.tx_plan.specs.Collection.{DroppedOn, long_among, stays, without_below}
use Rattle.tx_plan.proofs.KeyOrder.{ordered, lt_trans, lt_itself, lt_back}
use Rattle.tx_plan.proofs.WalkRows.{comes_before, AreLeft, left_first, left_rest, first_cells, first_before_rest, gap_none, start_none}
use Rattle.tx_plan.proofs.LockRows.{contains_first, contains_next, contains_cases, contains_none}
use Rattle.tx_plan.proofs.Collects.{pairs_first, pairs_none, keeps_above}
use Rattle.tx_plan.proofs.OnceLists.{Once, once_rest, once_other, once_append}

-- ---- the places on one key

-- these timestamps on a key
abbrev on_key : Key → List ℕ → List (Key × ℕ)
on_key k [] = []
on_key k (q ∷ times) = (k, q) ∷ on_key k times

on_key_in : (k : Key) (times : List ℕ) (version : Key × ℕ) → Contains (on_key k times) version
    → (k ≡ version.0) × Contains times version.1
on_key_in k [] version c = absurd (contains_none version c)
on_key_in k (q ∷ times) version c =
    elim (contains_cases (k, q) (on_key k times) version c) [
      | inl e ↦ (
        ap (λ (p : Key × ℕ). p.0) e,
        subst (Contains (q ∷ times)) (ap (λ (p : Key × ℕ). p.1) e) (contains_first q times),
      )
      | inr later ↦ (let old = on_key_in k times version later in (old.0, contains_next q times version.1 old.1))
    ]

on_key_all : (k : Key) (times : List ℕ) (q : ℕ) → Contains times q → Contains (on_key k times) (k, q)
on_key_all k [] q c = absurd (contains_none q c)
on_key_all k (p ∷ times) q c =
    elim (contains_cases p times q c) [
      | inl e ↦ subst (λ r. Contains (on_key k (p ∷ times)) (k, r)) e (contains_first (k, p) (on_key k times))
      | inr later ↦ contains_next (k, p) (on_key k times) (k, q) (on_key_all k times q later)
    ]

on_key_once : (k : Key) (times : List ℕ) → Once times → Once (on_key k times)
on_key_once k [] once = pairs_none
on_key_once k (q ∷ times) once =
    pairs_first (k, q) (on_key k times)
    (λ y c e. once_other q times once y.1 (on_key_in k times y c).1 (ap (λ (p : Key × ℕ). p.1) e))
    (on_key_once k times (once_rest q times once))

on_key_length : (k : Key) (times : List ℕ) → length (on_key k times) ≡ length times
on_key_length k [] = refl
on_key_length k (q ∷ times) = ap suc (on_key_length k times)

long_more : (cells : Key → Cells) (k : Key) (times : List ℕ) (versions : List (Key × ℕ))
    → long_values cells (on_key k times ++ versions) ≡ long_among (cells k).write times + long_values cells versions
long_more cells k [] versions = omega arith
long_more cells k (q ∷ times) versions =
    let rest = long_more cells k times versions in
    elim (cases_Bool (commit_is is_long ((cells k).write q))) [
      | inl long ↦ (rw long (omega (arith, rest)))
      | inr short ↦ (rw short rest)
    ]

-- ---- what is dropped of the keys that a walk has passed

pub record DroppedTo (cells : Key → Cells) (safe : ℕ) (rest : List KeyRow) (records values : ℕ) : Type 0 where
  pub left : AreLeft cells every_key rest
  pub versions : List (Key × ℕ)
  pub once : Once versions
  pub each : (version : Key × ℕ)
      → Contains versions version ↔ (IsTrue (comes_before rest version.0) × IsDropped cells safe version)
  pub counted : records ≡ length versions
  pub long : values ≡ long_values cells versions

nothing_dropped : (cells : Key → Cells) (safe : ℕ) (version : Key × ℕ) → cells version.0 ≡ no_cells
    → IsDropped cells safe version → ⊥
nothing_dropped cells safe version e is = is.0 (ap (λ (c : Cells). c.write version.1) e)

pub drop_starts : (cells : Key → Cells) (safe : ℕ) (all : List KeyRow) → IsWalk cells every_key all
    → DroppedTo cells safe all 0 0
drop_starts cells safe all walk = record {
  left = left_first cells every_key all walk;
  versions = [];
  once = pairs_none;
  each = λ version. (
    λ c. absurd (contains_none version c),
    λ h. absurd (nothing_dropped cells safe version (start_none cells every_key all version.0 walk refl h.0) h.1),
  );
  counted = refl;
  long = refl;
}

module _ (cells : Key → Cells) (x : KeyRow) (rest : List KeyRow) (left : AreLeft cells every_key (x ∷ rest)) where
  -- a key that is passed with the first row was passed before, is its key, or has nothing
  pub cases_past : (k : Key) → IsTrue (comes_before rest k)
      → IsTrue (key_lt k x.key) ⊎ ((k ≡ x.key) ⊎ (cells k ≡ no_cells))
  cases_past k w = elim (ordered k x.key) [
    | inl lt ↦ inl lt
    | inr n ↦ elim n [
      | inl same ↦ inr (inl same)
      | inr gt ↦ inr (inr (gap_none cells every_key x rest k left refl (not_lt_of gt)
          (λ e. lt_itself k (subst (λ q. IsTrue (key_lt q k)) e gt)) w))
    ]
  ]
    where
      not_lt_of : IsTrue (key_lt x.key k) → key_lt k x.key ≡ false
      not_lt_of gt = elim (cases_Bool (key_lt k x.key)) [ inl e ↦ absurd (lt_back k x.key e gt) | inr e ↦ e ]

  still_past : (k : Key) → IsTrue (key_lt k x.key) → IsTrue (comes_before rest k)
  still_past k lt = later rest left.rising
    where
      later : (ys : List KeyRow) → AreInOrder (x ∷ ys) → IsTrue (comes_before ys k)
      later [] h = refl
      later (y ∷ ys) h = lt_trans k x.key y.key lt h.0

  first_past : IsTrue (comes_before rest x.key)
  first_past = first_before_rest x rest left.rising

  here : cells x.key ≡ x.cells
  here = first_cells cells every_key x rest left

module _ (cells : Key
    → Cells) (safe : ℕ) (x : KeyRow) (rest : List KeyRow) (records values : ℕ) (so :
    DroppedTo cells safe (x ∷ rest) records values) (times : List ℕ) (on : DroppedOn x.cells.write safe times) where
  dropped_here : (q : ℕ) → IsDropped cells safe (x.key, q) ↔ Contains times q
  dropped_here q = (
    λ is. (on.each q).1 (subst (λ (c : Cells). (c.write q ≢ None)
        × (keeps c.write safe q ≡ false)) (here cells x rest so.left) is),
    λ c. subst (λ (on : Cells). (on.write q ≢ None)
        × (keeps on.write safe q ≡ false)) (sym (here cells x rest so.left)) ((on.each q).0 c),
  )

  apart : (version : Key × ℕ) → Contains (on_key x.key times) version → Contains so.versions version → ⊥
  apart version new old =
      lt_itself x.key (subst (λ q. IsTrue (key_lt q x.key)) (sym (on_key_in x.key times version new).0)
      ((so.each version).0 old).0)

  more_in : (version : Key × ℕ) → Contains (on_key x.key times ++ so.versions) version
      → IsTrue (comes_before rest version.0) × IsDropped cells safe version
  more_in version c = elim (Contains-append_cases (on_key x.key times) so.versions version c) [
    | inl new ↦ (let is = on_key_in x.key times version new in (
      subst (λ k. IsTrue (comes_before rest k)) is.0 (first_past cells x rest so.left),
      subst (λ k. IsDropped cells safe (k, version.1)) is.0 ((dropped_here version.1).1 is.1),
    ))
    | inr old ↦ (let is = (so.each version).0 old in (still_past cells x rest so.left version.0 is.0, is.1))
  ]

  more_all : (version : Key × ℕ) → IsTrue (comes_before rest version.0) × IsDropped cells safe version
      → Contains (on_key x.key times ++ so.versions) version
  more_all version is = elim (cases_past cells x rest so.left version.0 is.0) [
    | inl lt ↦ Contains-append_right (on_key x.key times) so.versions version ((so.each version).1 (lt, is.1))
    | inr n ↦ elim n [
      | inl same ↦ Contains-append_left (on_key x.key times) so.versions version
          (subst (λ k. Contains (on_key x.key times) (k, version.1)) (sym same)
          (on_key_all x.key times version.1
          ((dropped_here version.1).0 (subst (λ k. IsDropped cells safe (k, version.1)) same is.1))))
      | inr none ↦ absurd (nothing_dropped cells safe version none is.1)
    ]
  ]

  -- the first key's records join those that were dropped
  pub drop_more : DroppedTo cells safe rest (records + length times) (values + long_among x.cells.write times)
  drop_more = record {
    left = left_rest cells every_key x rest so.left;
    versions = on_key x.key times ++ so.versions;
    once = once_append (on_key x.key times) so.versions (on_key_once x.key times on.once) so.once apart;
    each = λ version. (more_in version, more_all version);
    counted = omega (arith, so.counted, length-append (on_key x.key times) so.versions, on_key_length x.key times);
    long = omega (
      arith,
      so.long,
      long_more cells x.key times so.versions,
      ap (λ (c : Cells). long_among c.write times) (here cells x rest so.left),
    );
  }

-- where no key is to come, these are all
pub drop_ends : (cells : Key → Cells) (safe records values : ℕ) (so : DroppedTo cells safe [] records values)
    → AllDropped cells safe so.versions
drop_ends cells safe records values so = record {
  once = so.once;
  each = λ version. (λ c. ((so.each version).0 c).1, λ is. (so.each version).1 (refl, is));
}

-- ---- what stays on a key

same_cells : (a b : Cells) → a.lock ≡ b.lock → ((q : ℕ) → a.write q ≡ b.write q) → a ≡ b
same_cells a b l w = λ i. record { lock = l i; write = λ q. w q i }

cond_same : {X : Type 0} (b : Bool) (x : X) → cond b x x ≡ x
cond_same true x = refl
cond_same false x = refl

write_cases : (o : Option Write) → (o ≡ None) ⊎ (o ≢ None)
write_cases None = inl refl
write_cases (Some w) = inr (λ e. (cc (e)))

stays_true : (stay : Option ℕ) (q : ℕ) → stay ≡ Some q → stays stay q ≡ true
stays_true None q e = absurd (cc (e))
stays_true (Some at) q e = let same : at ≡ q = cc (e) in eq-eqb at q same

stays_false : (stay : Option ℕ) (q : ℕ) → (stay ≡ Some q → ⊥) → stays stay q ≡ false
stays_false None q h = refl
stays_false (Some at) q h =
    elim (cases_Bool (nat_eq at q)) [ inl e ↦ absurd (h (ap Some (eqb-true at q e))) | inr e ↦ e ]

-- what is kept, as the plan of the key tells it
pub kept_is : (cells : Cells) (safe : ℕ) (stay : Option ℕ)
    → ((q : ℕ) → q < safe → cells.write q ≢ None → (keeps cells.write safe q ≡ true) ↔ (stay ≡ Some q))
    → kept cells safe ≡ without_below cells safe stay
kept_is cells safe stay tells =
    same_cells (kept cells safe) (without_below cells safe stay) refl (λ q. at q (write_cases (cells.write q)))
  where
    at : (q : ℕ) → (cells.write q ≡ None) ⊎ (cells.write q ≢ None)
        → cond (keeps cells.write safe q) (cells.write q) None
        ≡ cond (nat_lt q safe && not (stays stay q)) None (cells.write q)
    at q (inl none) = ap (λ o. cond (keeps cells.write safe q) o None) none ∙ cond_same (keeps cells.write safe q) None
        ∙ sym (cond_same (nat_lt q safe && not (stays stay q)) None)
        ∙ sym (ap (λ o. cond (nat_lt q safe && not (stays stay q)) None o) none)
    at q (inr some) = elim (cases_lt q safe) [
      | inl lt ↦ elim (cases_Bool (keeps cells.write safe q)) [
        | inl here ↦ (let s = stays_true stay q ((tells q lt some).0 here) in
            let off : (nat_lt q safe && not (stays stay q)) ≡ false = (rw (lt-ltb q safe lt, s) refl) in
            ap (λ b. cond b (cells.write q) None) here ∙ sym (ap (λ b. cond b None (cells.write q)) off))
        | inr gone ↦ (let s = stays_false stay q (λ e. (cc (gone, (tells q lt some).1 e))) in
            let on : (nat_lt q safe && not (stays stay q)) ≡ true = (rw (lt-ltb q safe lt, s) refl) in
            ap (λ b. cond b (cells.write q) None) gone ∙ sym (ap (λ b. cond b None (cells.write q)) on))
      ]
      | inr ge ↦ (let stay_there : keeps cells.write safe q ≡ true = keeps_above cells.write safe q ge in
          let off : (nat_lt q safe && not (stays stay q)) ≡ false = (rw (le-ltb q safe ge) refl) in
          ap (λ b. cond b (cells.write q) None) stay_there ∙ sym (ap (λ b. cond b None (cells.write q)) off))
    ]
