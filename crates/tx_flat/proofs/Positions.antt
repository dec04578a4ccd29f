-- What is known where a walk over flat maps keeps its place, and what of their entries
-- is behind a key.
use Rattle.std.proofs.Common.{◌≡◌, ◌⊎◌, inl, inr, ℕ, ◌-◌, ◌<◌, ◌≤◌, ◌^◌, ◌&&◌, Bool, true, false, cond, List, [], ◌∷◌, Option, Some, None, map, refl, sym, ap, subst, ◌∙◌, arith}
use Rattle.std.specs.Prelude.{IsTrue, IsSome, is_some}
use Rattle.std.specs.List.{filter, AllByRecursion}
use Rattle.std.specs.List.Sorted.{IsStrictlySortedBy}
use Rattle.std.specs.Map.{keys_of, lookup}
use Rattle.std.specs.Map.Iter.{TakesFirst, deref_pair}
use Rattle.std.specs.BTreeMap as tree
use Rattle.std.specs.BTreeMap.Range.{entries_between}
use Rattle.std.specs.declared.ops.Bound.TheVariants.{Included, Excluded, Unbounded}
use Rattle.std.proofs.Math.Bool.{and-true}
use Rattle.std.specs.Ordering.{nat_cmp, is_eq, is_lt, is_le, ordering_then}
use Rattle.std.specs.declared.cmp.Ordering.{Ordering}
use Rattle.std.specs.declared.cmp.Ordering.TheVariants.{Less, Equal, Greater}
use Rattle.std.specs.Cmp.Lexicographic.{slice_cmp}
use Rattle.std.proofs.lemmas.Bool.{cases_Bool, cases_lt}
use Rattle.std.proofs.lemmas.Cmp.{ranked, tied_itself, nat_list_cmp_total}
use Rattle.std.proofs.lemmas.Map.Lookups.{exact_bytes}
use Rattle.std.proofs.lemmas.Map.Entries.{lookup-filter-keys, lookup_head, lookup_tail}
use Rattle.std.proofs.lemmas.Map.Keys.{sorted_head}
use Rattle.std.proofs.lemmas.List.Kept.{IsStrictlySortedBy-filter}
use denote.Ref.{Bor}
use Rattle.tx_types.specs.declared.key.Key.{Key}
use Rattle.tx_types.specs.declared.lock.LockRec.{LockRec}
use Rattle.tx_types.specs.declared.write.WriteRec.{WriteRec}
use Rattle.tx_types.specs.Keys.{key_lt, key_le}
use Rattle.tx_plan.proofs.KeyOrder.{lt_itself, lt_le, le_itself, le_cases, lt_then_le, not_lt}
use Rattle.tx_flat.specs.declared.FlatCells.{FlatCells}
use Rattle.tx_flat.specs.Flats.{flat_content, fronts_of}
use Rattle.tx_flat.specs.NextKeys.{IsHeld, FirstOf, lesser_of}
use Rattle.tx_flat.specs.Positions.{Locks, WriteEntries, coming, locks_where, writes_where, first_of, next_key, is_to_come, IsPosition}
use Rattle.tx_spelling.specs.Spelt.{version_cmp, exact_versions}
use Rattle.tx_flat.proofs.HeldKeys.{In, lock_in, in_lock, write_in, in_write}
use Rattle.tx_flat.proofs.Above.{less_cases, less_newer}
use Rattle.tx_flat.proofs.KeptEntries.{tied}
use Rattle.tx_flat.proofs.Sieves.{find, find_first, left_all, none_between}

-- ---- keys that rise, perhaps with the same key in a row

abbrev AreFrom : Key → List Key → Type 0
AreFrom k [] = Unit {0}
AreFrom k (x ∷ xs) = IsTrue (key_le k x) × AreFrom k xs

abbrev pub Climb : List Key → Type 0
Climb [] = Unit {0}
Climb (k ∷ ks) = AreFrom k ks × Climb ks

from_in : (k j : Key) (ks : List Key) → AreFrom k ks → In j ks → IsTrue (key_le k j)
from_in k j [] a i = absurd i
from_in k j (x ∷ xs) a (inl e) = subst (λ (y : Key). IsTrue (key_le k y)) e a.0
from_in k j (x ∷ xs) a (inr i) = from_in k j xs a.1 i

from_filter : (p : Key → Bool) (k : Key) (ks : List Key) → AreFrom k ks → AreFrom k (filter p ks)
from_filter p k [] a = tt
from_filter p k (x ∷ xs) a = elim (cases_Bool (p x)) [
  | inl on ↦ subst (AreFrom k) (sym (ap (λ b. cond b (x ∷ filter p xs) (filter p xs)) on)) (a.0, from_filter p k xs a.1)
  | inr off ↦ subst (AreFrom k) (sym (ap (λ b. cond b (x ∷ filter p xs) (filter p xs)) off)) (from_filter p k xs a.1)
]

climb_filter : (p : Key → Bool) (ks : List Key) → Climb ks → Climb (filter p ks)
climb_filter p [] c = tt
climb_filter p (x ∷ xs) c = elim (cases_Bool (p x)) [
  | inl on ↦ subst Climb (sym (ap (λ b. cond b (x ∷ filter p xs) (filter p xs)) on)) (
    from_filter p x xs c.0,
    climb_filter p xs c.1,
  )
  | inr off ↦ subst Climb (sym (ap (λ b. cond b (x ∷ filter p xs) (filter p xs)) off)) (climb_filter p xs c.1)
]

-- the first of them that passes
pub first_passing : (p : Key → Bool) (ks : List Key) → Climb ks → FirstOf p (λ j. In j ks) (first_of (filter p ks))
first_passing p [] c = λ j yes_p i. absurd i
first_passing p (x ∷ xs) c = elim (cases_Bool (p x)) [
  | inl on ↦ subst (λ (ks : List Key). FirstOf p (λ j. In j (x ∷ xs)) (first_of ks))
      (sym (ap (λ b. cond b (x ∷ filter p xs) (filter p xs)) on)) (record {
        passed = on;
        among = inl refl;
        least = λ j yes_p i. elim i [
          | inl e ↦ subst (λ (y : Key). IsTrue (key_le x y)) e (le_itself x)
          | inr there ↦ from_in x j xs c.0 there
        ];
      })
  | inr off ↦ subst (λ (ks : List Key). FirstOf p (λ j. In j (x ∷ xs)) (first_of ks))
      (sym (ap (λ b. cond b (x ∷ filter p xs) (filter p xs)) off))
      (later (first_of (filter p xs)) off (first_passing p xs c.1))
]
  where
    not_it : (j : Key) → p x ≡ false → IsTrue (p j) → In j (x ∷ xs) → In j xs
    not_it j off yes_p (inl e) = (let on = ap p e ∙ yes_p in absurd (cc (on, off)))
    not_it j off yes_p (inr i) = i

    later : (o : Option Key) → p x ≡ false → FirstOf p (λ j. In j xs) o → FirstOf p (λ j. In j (x ∷ xs)) o
    later None off none = λ j yes_p i. none j yes_p (not_it j off yes_p i)
    later (Some k) off is =
        record {
          passed = is.passed;
          among = inr is.among;
          least =
              λ j yes_p i. is.least j yes_p (not_it j off yes_p i);
        }

-- ---- the first of two kinds

pub first_by : (p : Key → Bool) (A B : Key → Type 0) (o : Option Key) → ((j : Key) → A j → B j)
    → ((j : Key) → B j → A j) → FirstOf p A o → FirstOf p B o
first_by p A B None to from none = λ j yes_p b. none j yes_p (from j b)
first_by p A B (Some k) to from is =
    record { passed = is.passed; among = to k is.among; least = λ j yes_p b. is.least j yes_p (from j b) }

pub first_of_two : (p : Key → Bool) (A B : Key → Type 0) (a b : Option Key) → FirstOf p A a → FirstOf p B b
    → FirstOf p (λ j. A j ⊎ B j) (lesser_of a b)
first_of_two p A B None None f g = λ j yes_p either. elim either [ inl x ↦ f j yes_p x | inr y ↦ g j yes_p y ]
first_of_two p A B None (Some b) f g =
    record {
      passed = g.passed;
      among = inr g.among;
      least =
          λ j yes_p either. elim either [ inl x ↦ absurd (f j yes_p x) | inr y ↦ g.least j yes_p y ];
    }
first_of_two p A B (Some a) None f g =
    record {
      passed = f.passed;
      among = inl f.among;
      least =
          λ j yes_p either. elim either [ inl x ↦ f.least j yes_p x | inr y ↦ absurd (g j yes_p y) ];
    }
first_of_two p A B (Some a) (Some b) f g = go (key_lt b a) refl
  where
    le_trans : (i j k : Key) → IsTrue (key_le i j) → IsTrue (key_le j k) → IsTrue (key_le i k)
    le_trans i j k x y = elim (le_cases i j x) [
      | inl lt ↦ lt_le i k (lt_then_le i j k lt y)
      | inr e ↦ subst (λ (h : Key). IsTrue (key_le h k)) (sym e) y
    ]

    go : (c : Bool) → key_lt b a ≡ c → FirstOf p (λ j. A j ⊎ B j) (cond c (Some b) (Some a))
    go true e = record {
      passed = g.passed;
      among = inr g.among;
      least =
          λ j yes_p either. elim either [
            | inl x ↦ le_trans b a j (lt_le b a e) (f.least j yes_p x)
            | inr y ↦ g.least j yes_p y
          ];
    }
    go false e = record {
      passed = f.passed;
      among = inl f.among;
      least =
          λ j yes_p either. elim either [
            | inl x ↦ f.least j yes_p x
            | inr y ↦ le_trans a b j (not_lt b a e) (g.least j yes_p y)
          ];
    }

-- what passes passes with all keys above
abbrev pub IsUpward : (Key → Bool) → Type 0
IsUpward p = (i j : Key) → IsTrue (p i) → IsTrue (key_le i j) → IsTrue (p j)

pub lt_upward : (k : Key) → IsUpward (key_lt k)
lt_upward k i j lt le = lt_then_le k i j lt le

pub le_upward : (k : Key) → IsUpward (key_le k)
le_upward k i j le up =
    elim (le_cases k i le) [
      | inl lt ↦ lt_le k j (lt_then_le k i j lt up)
      | inr e ↦ subst (λ (h : Key). IsTrue (key_le h j)) (sym e) up
    ]

-- of what is held, that passes which is the first or above it
pub passes_as : (p : Key → Bool) (A : Key → Type 0) (o : Option Key) → IsUpward p → FirstOf p A o → (j : Key) → A j
    → p j ≡ is_to_come o j
passes_as p A None up none j a = elim (cases_Bool (p j)) [ inl on ↦ absurd (none j on a) | inr off ↦ off ]
passes_as p A (Some k) up is j a = elim (cases_Bool (p j)) [
  | inl on ↦ on ∙ sym (is.least j on a)
  | inr off ↦ elim (cases_Bool (key_le k j)) [
    | inl over ↦ (let on = up k j is.passed over in absurd (cc (on, off)))
    | inr under ↦ off ∙ sym under
  ]
]

-- ---- entries by their keys

module _ {E : Type 0} (key : E → Key) where
  abbrev part : (Key → Bool) → List E → List E
  part p es = filter (λ e. p (key e)) es

  pub keys_part : (p : Key → Bool) (es : List E) → map key (part p es) ≡ filter p (map key es)
  keys_part p [] = refl
  keys_part p (e ∷ es) = elim (cases_Bool (p (key e))) [
    | inl on ↦ ap (λ b. map key (cond b (e ∷ part p es) (part p es))) on
        ∙ ap (λ (ks : List Key). key e ∷ ks) (keys_part p es)
        ∙ sym (ap (λ b. cond b (key e ∷ filter p (map key es)) (filter p (map key es))) on)
    | inr off ↦ ap (λ b. map key (cond b (e ∷ part p es) (part p es))) off ∙ keys_part p es
        ∙ sym (ap (λ b. cond b (key e ∷ filter p (map key es)) (filter p (map key es))) off)
  ]

  pub part_same : (p q : Key → Bool) (es : List E) → ((j : Key) → In j (map key es) → p j ≡ q j) → part p es ≡ part q es
  part_same p q [] same = refl
  part_same p q (e ∷ es) same =
      ap (λ b. cond b (e ∷ part p es) (part p es)) (same (key e) (inl refl))
      ∙ ap (λ (xs : List E). cond (q (key e)) (e ∷ xs) xs) (part_same p q es (λ j i. same j (inr i)))

  pub part_part : (p q : Key → Bool) (es : List E) → ((j : Key) → IsTrue (q j) → IsTrue (p j))
      → part q (part p es) ≡ part q es
  part_part p q [] narrows = refl
  part_part p q (e ∷ es) narrows = elim (cases_Bool (p (key e))) [
    | inl on ↦ ap (λ b. part q (cond b (e ∷ part p es) (part p es))) on
        ∙ ap (λ (xs : List E). cond (q (key e)) (e ∷ xs) xs) (part_part p q es narrows)
    | inr off ↦ (
        let out : q (key e) ≡ false =
        elim (cases_Bool (q (key e))) [
          | inl yes_q ↦ (let on = narrows (key e) yes_q in absurd (cc (on, off)))
          | inr no_q ↦ no_q
        ] in
        ap (λ b. part q (cond b (e ∷ part p es) (part p es))) off ∙ part_part p q es narrows
        ∙ sym (ap (λ b. cond b (e ∷ part q es) (part q es)) out)
        )
  ]

  pub part_all : (p : Key → Bool) (es : List E) → ((j : Key) → In j (map key es) → p j ≡ true) → part p es ≡ es
  part_all p [] all = refl
  part_all p (e ∷ es) all =
      ap (λ b. cond b (e ∷ part p es) (part p es)) (all (key e) (inl refl))
      ∙ ap (λ (xs : List E). e ∷ xs) (part_all p es (λ j i. all j (inr i)))

  -- the first of these is above a key
  abbrev pub StartsAbove : Key → List E → Type 0
  StartsAbove k [] = Unit {0}
  StartsAbove k (e ∷ es) = IsTrue (key_lt k (key e))

  all_above : (k : Key) (es : List E) → Climb (map key es) → StartsAbove k es → (j : Key) → In j (map key es)
      → IsTrue (key_lt k j)
  all_above k [] c up j i = absurd i
  all_above k (e ∷ es) c up j (inl same) = subst (λ (y : Key). IsTrue (key_lt k y)) same up
  all_above k (e ∷ es) c up j (inr i) = lt_then_le k (key e) j up (from_in (key e) j (map key es) c.0 i)

  module _ (k : Key) (all : List E) (rise : Climb (map key all)) where
    left_climb : (es : List E) → es ≡ part (key_le k) all → Climb (map key es)
    left_climb es is = subst Climb (sym (ap (map key) is ∙ keys_part (key_le k) all))
        (climb_filter (key_le k) (map key all) rise)

    above_left : (es : List E) → es ≡ part (key_le k) all → part (key_lt k) es ≡ part (key_lt k) all
    above_left es is = ap (part (key_lt k)) is ∙ part_part (key_le k) (key_lt k) all (λ j lt. lt_le k j lt)

    -- where none of these is of the key, they are what is above it
    pub beyond : (es : List E) → es ≡ part (key_le k) all → StartsAbove k es → es ≡ part (key_lt k) all
    beyond es is up = sym (part_all (key_lt k) es (all_above k es (left_climb es is) up)) ∙ above_left es is

    -- where only the first is, the others are what is above it
    pub behind : (e : E) (es : List E) → key e ≡ k → e ∷ es ≡ part (key_le k) all → StartsAbove k es
        → es ≡ part (key_lt k) all
    behind e es same is up =
        let low : key_lt k (key e) ≡ false =
        elim (cases_Bool (key_lt k (key e))) [
          | inl lt ↦
              absurd (lt_itself k (subst (λ (y : Key). IsTrue (key_lt k y)) same lt))
          | inr ge ↦ ge
        ] in
        sym (part_all (key_lt k) es (all_above k es (left_climb (e ∷ es) is).1 up))
        ∙ sym (ap (λ b. cond b (e ∷ part (key_lt k) es) (part (key_lt k) es)) low)
        ∙ above_left (e ∷ es) is

-- ---- the maps' entries rise

lt_from : (k : Key) (ks : List Key) → AllByRecursion (λ j. slice_cmp nat_cmp k j ≡ Less) ks → AreFrom k ks
lt_from k [] all = tt
lt_from k (x ∷ xs) all = (lt_le k x (ap is_lt all.0), lt_from k xs all.1)

pub keys_climb : (ks : List Key) → IsStrictlySortedBy (slice_cmp nat_cmp) ks → Climb ks
unfolding IsStrictlySortedBy
keys_climb [] s = tt
keys_climb (k ∷ ks) s = (lt_from k ks s.0, keys_climb ks s.1)

version_le : (v w : List ℕ × ℕ) → version_cmp v w ≡ Less → IsTrue (key_le v.0 w.0)
version_le v w e = elim (less_cases v w e) [
  | inl less ↦ lt_le v.0 w.0 (ap is_lt less)
  | inr both ↦ subst (λ (k : Key). IsTrue (key_le v.0 k)) both.0 (le_itself v.0)
]

versions_from : {X : Type 0} (v : List ℕ × ℕ) (es : List ((List ℕ × ℕ) × X))
    → AllByRecursion (λ w. version_cmp v w ≡ Less) (keys_of es) → AreFrom v.0 (fronts_of es)
versions_from v [] all = tt
versions_from v (e ∷ es) all = (version_le v e.0 all.0, versions_from v es all.1)

pub fronts_climb : {X : Type 0} (es : List ((List ℕ × ℕ) × X)) → IsStrictlySortedBy version_cmp (keys_of es)
    → Climb (fronts_of es)
unfolding IsStrictlySortedBy
fronts_climb [] s = tt
fronts_climb (e ∷ es) s = (versions_from e.0 es s.0, fronts_climb es s.1)

-- entries behind one of a key's: more of the key, and all that are above it
pub record AreBehind (k : Key) (all es : WriteEntries) : Type 0 where
  pub from : AreFrom k (fronts_of es)
  pub rise : Climb (fronts_of es)
  pub above : writes_where (key_lt k) es ≡ writes_where (key_lt k) all

abbrev front : (List ℕ × ℕ) × WriteRec → Key
front e = e.0.0

not_above : (k : Key) (e : (List ℕ × ℕ) × WriteRec) (es : WriteEntries) → e.0.0 ≡ k
    → writes_where (key_lt k) (e ∷ es) ≡ writes_where (key_lt k) es
not_above k e es same = elim (cases_Bool (key_lt k e.0.0)) [
  | inl lt ↦ absurd (lt_itself k (subst (λ (y : Key). IsTrue (key_lt k y)) same lt))
  | inr low ↦ ap (λ b. cond b (e ∷ writes_where (key_lt k) es) (writes_where (key_lt k) es)) low
]

pub behind_newest : (k : Key) (all : WriteEntries) (e : (List ℕ × ℕ) × WriteRec) (es : WriteEntries)
    → IsStrictlySortedBy version_cmp (keys_of all) → e.0.0 ≡ k → e ∷ es ≡ writes_where (key_le k) all
    → AreBehind k all es
behind_newest k all e es s same is =
    let climb = left_climb front k all (fronts_climb all s) (e ∷ es) is in record {
      from = subst (λ (j : Key). AreFrom j (fronts_of es)) same climb.0;
      rise = climb.1;
      above = sym (not_above k e es same) ∙ above_left front k all (fronts_climb all s) (e ∷ es) is;
    }

pub behind_next : (k : Key) (all : WriteEntries) (e : (List ℕ × ℕ) × WriteRec) (es : WriteEntries) → e.0.0 ≡ k
    → AreBehind k all (e ∷ es) → AreBehind k all es
behind_next k all e es same are =
    record { from = are.from.1; rise = are.rise.1; above = sym (not_above k e es same) ∙ are.above }

-- the first of another key, and those behind it, are all above the key
pub behind_other : (k : Key) (all : WriteEntries) (e : (List ℕ × ℕ) × WriteRec) (es : WriteEntries) → (e.0.0 ≡ k → ⊥)
    → AreBehind k all (e ∷ es) → e ∷ es ≡ writes_where (key_lt k) all
behind_other k all e es other are = elim (le_cases k e.0.0 are.from.0) [
  | inl lt ↦ sym (part_all front (key_lt k) (e ∷ es) (all_above front k (e ∷ es) are.rise lt)) ∙ are.above
  | inr one ↦ absurd (other (sym one))
]

-- of a key there is one lock
pub locks_above : (k : Key) (e : Key × LockRec) (es all : Locks) → IsStrictlySortedBy (slice_cmp nat_cmp) (keys_of all)
    → e.0 ≡ k → e ∷ es ≡ locks_where (key_le k) all → es ≡ locks_where (key_lt k) all
locks_above k e es all s same is =
    behind (λ (x : Key × LockRec). x.0) k all (keys_climb (keys_of all) s) e es same is
    (starts es (sorted_head (slice_cmp nat_cmp) e.0 (keys_of es) sorted))
  where
    sorted : IsStrictlySortedBy (slice_cmp nat_cmp) (keys_of (e ∷ es))
    sorted = subst (IsStrictlySortedBy (slice_cmp nat_cmp))
        (sym (ap keys_of is ∙ keys_part (λ (x : Key × LockRec). x.0) (key_le k) all))
        (IsStrictlySortedBy-filter (slice_cmp nat_cmp) (key_le k) (keys_of all) s)

    starts : (xs : Locks) → AllByRecursion (λ j. slice_cmp nat_cmp e.0 j ≡ Less) (keys_of xs)
        → StartsAbove (λ (x : Key × LockRec). x.0) k xs
    starts [] all = tt
    starts (x ∷ xs) all = subst (λ (j : Key). IsTrue (key_lt j x.0)) same (ap is_lt all.0)

-- ---- what is left as the slot of a walk

module _ (flat : FlatCells) (p : Key → Bool) (up : IsUpward p) (locks : Locks) (writes : WriteEntries)
    (sl : IsStrictlySortedBy (slice_cmp nat_cmp) (keys_of flat.locks.entries))
    (sw : IsStrictlySortedBy version_cmp (keys_of flat.writes.entries))
    (el : locks ≡ locks_where p flat.locks.entries) (ew : writes ≡ writes_where p flat.writes.entries) where
  abbrev Held : Key → Type 0
  Held j = IsHeld (flat_content flat j)

  abbrev Among : Key → Type 0
  Among j = In j (keys_of flat.locks.entries) ⊎ In j (fronts_of flat.writes.entries)

  among_held : (j : Key) → Among j → Held j
  among_held j (inl i) = inl (in_lock j flat.locks.entries i)
  among_held j (inr i) = inr (in_write j flat.writes.entries i)

  held_among : (j : Key) → Held j → Among j
  held_among j (inl lock) = inl (lock_in j flat.locks.entries lock)
  held_among j (inr write) = inr (write_in j write.0 flat.writes.entries write.1)

  first_lock : FirstOf p (λ j. In j (keys_of flat.locks.entries)) (first_of (keys_of locks))
  first_lock = subst (λ (ks : List Key). FirstOf p (λ j. In j (keys_of flat.locks.entries)) (first_of ks))
      (sym (ap keys_of el ∙ keys_part (λ (x : Key × LockRec). x.0) p flat.locks.entries))
      (first_passing p (keys_of flat.locks.entries) (keys_climb (keys_of flat.locks.entries) sl))

  first_write : FirstOf p (λ j. In j (fronts_of flat.writes.entries)) (first_of (fronts_of writes))
  first_write = subst (λ (ks : List Key). FirstOf p (λ j. In j (fronts_of flat.writes.entries)) (first_of ks))
      (sym (ap fronts_of ew ∙ keys_part (λ (x : (List ℕ × ℕ) × WriteRec). x.0.0) p flat.writes.entries))
      (first_passing p (fronts_of flat.writes.entries) (fronts_climb flat.writes.entries sw))

  first_among : FirstOf p Among (next_key locks writes)
  first_among = first_of_two p (λ j. In j (keys_of flat.locks.entries)) (λ j. In j (fronts_of flat.writes.entries))
      (first_of (keys_of locks)) (first_of (fronts_of writes)) first_lock first_write

  pub first_held : FirstOf p Held (next_key locks writes)
  first_held = first_by p Among Held (next_key locks writes) among_held held_among first_among

  pub slot : IsPosition flat locks writes
  slot = record {
    locks_rise = sl;
    writes_rise = sw;
    locks_left = el ∙ part_same (λ (x : Key × LockRec). x.0) p (is_to_come (next_key locks writes)) flat.locks.entries
        (λ j i. passes_as p Among (next_key locks writes) up first_among j (inl i));
    writes_left = ew ∙ part_same (λ (x : (List ℕ × ℕ) × WriteRec). x.0.0) p (is_to_come (next_key locks writes))
        flat.writes.entries (λ j i. passes_as p Among (next_key locks writes) up first_among j (inr i));
  }

-- ---- what is found of the next key

key_is : (k j : Key) → is_eq (slice_cmp nat_cmp k j) ≡ true → k ≡ j
key_is k j e = exact_bytes k j (tied (slice_cmp nat_cmp k j) e)

front_is : (k : Key) (q : ℕ) (v : List ℕ × ℕ) → is_eq (version_cmp (k, q) v) ≡ true → k ≡ v.0
front_is k q v e = ap (λ (w : List ℕ × ℕ). w.0) (exact_versions (k, q) v (tied (version_cmp (k, q) v) e))

not_itself : (k : Key) → key_lt k k ≡ false
not_itself k = elim (cases_Bool (key_lt k k)) [ inl lt ↦ absurd (lt_itself k lt) | inr ge ↦ ge ]

module _ (k : Key) where
  found_lock : (all es : Locks) → es ≡ locks_where (key_le k) all
      → lookup (tree.is_at (slice_cmp nat_cmp k)) all ≡ lookup (tree.is_at (slice_cmp nat_cmp k)) es
  found_lock all es is =
      sym (lookup-filter-keys (tree.is_at (slice_cmp nat_cmp k)) (key_le k) true
      (λ j at. subst (λ (y : Key). IsTrue (key_le k y)) (key_is k j at) (le_itself k)) all)
      ∙ ap (lookup (tree.is_at (slice_cmp nat_cmp k))) (sym is)

  pub lock_here : (all : Locks) (rec : LockRec) (es : Locks) → (k, rec) ∷ es ≡ locks_where (key_le k) all
      → lookup (tree.is_at (slice_cmp nat_cmp k)) all ≡ Some rec
  lock_here all rec es is =
      found_lock all ((k, rec) ∷ es) is
      ∙ lookup_head (tree.is_at (slice_cmp nat_cmp k)) (k, rec) es (ap is_eq (tied_itself nat_list_cmp_total k))

  pub no_lock_here : (all es : Locks) → es ≡ locks_where (key_le k) all → es ≡ locks_where (key_lt k) all
      → lookup (tree.is_at (slice_cmp nat_cmp k)) all ≡ None
  no_lock_here all es is over =
      found_lock all es is ∙ ap (lookup (tree.is_at (slice_cmp nat_cmp k))) over
      ∙ lookup-filter-keys (tree.is_at (slice_cmp nat_cmp k)) (key_lt k) false
      (λ j at. ap (key_lt k) (sym (key_is k j at)) ∙ not_itself k) all

  found_write : (all es : WriteEntries) (q : ℕ) → es ≡ writes_where (key_le k) all → find (k, q) all ≡ find (k, q) es
  found_write all es q is =
      sym (lookup-filter-keys (tree.is_at (version_cmp (k, q))) (λ v. key_le k v.0) true
      (λ v at. subst (λ (y : Key). IsTrue (key_le k y)) (front_is k q v at) (le_itself k)) all)
      ∙ ap (find (k, q)) (sym is)

  pub no_write_here : (all es : WriteEntries) (q : ℕ) → es ≡ writes_where (key_le k) all
      → es ≡ writes_where (key_lt k) all
      → find (k, q) all ≡ None
  no_write_here all es q is over =
      found_write all es q is ∙ ap (find (k, q)) over
      ∙ lookup-filter-keys (tree.is_at (version_cmp (k, q))) (λ v. key_lt k v.0) false
      (λ v at. ap (key_lt k) (sym (front_is k q v at)) ∙ not_itself k) all

  module _ (all : WriteEntries) (c : ℕ) (rec : WriteRec) (es : WriteEntries) (is : ((k, c), rec) ∷ es
      ≡ writes_where (key_le k) all) where
    pub write_here : find (k, c) all ≡ Some rec
    write_here = found_write all (((k, c), rec) ∷ es) c is ∙ find_first (k, c) ((k, c), rec) es refl

    -- it is the newest
    pub newest_here : IsStrictlySortedBy version_cmp (keys_of all) → (q : ℕ) → IsSome (find (k, q) all) → q ≤ c
    newest_here s q some = elim (cases_lt c q) [
      | inl over ↦ (
          let sorted = subst (IsStrictlySortedBy version_cmp)
          (sym (ap keys_of is ∙ keys_filter (λ v. key_le k v.0) all))
          (IsStrictlySortedBy-filter version_cmp (λ v. key_le k v.0) (keys_of all) s) in
          let left = left_all (λ u. find u (((k, c), rec) ∷ es)) (((k, c), rec) ∷ es) sorted (λ u. refl) in
          let none = found_write all (((k, c), rec) ∷ es) q is
          ∙ none_between (λ u. find u (((k, c), rec) ∷ es)) None (k, c) rec es left (
            k,
            q,
          ) tt (less_newer k q c over) in
          absurd (cc (some, ap is_some none))
          )
      | inr upto ↦ upto
    ]
      where
        keys_filter : (p : List ℕ × ℕ → Bool) (xs : WriteEntries)
            → keys_of (filter (λ e. p e.0) xs) ≡ filter p (keys_of xs)
        keys_filter p [] = refl
        keys_filter p (x ∷ xs) = elim (cases_Bool (p x.0)) [
          | inl on ↦ ap (λ b. keys_of (cond b (x ∷ filter (λ e. p e.0) xs) (filter (λ e. p e.0) xs))) on
              ∙ ap (λ (vs : List (List ℕ × ℕ)). x.0 ∷ vs) (keys_filter p xs)
              ∙ sym (ap (λ b. cond b (x.0 ∷ filter p (keys_of xs)) (filter p (keys_of xs))) on)
          | inr off ↦ ap (λ b. keys_of (cond b (x ∷ filter (λ e. p e.0) xs) (filter (λ e. p e.0) xs))) off
              ∙ keys_filter p xs ∙ sym (ap (λ b. cond b (x.0 ∷ filter p (keys_of xs)) (filter p (keys_of xs))) off)
        ]

-- ---- what a search finds

after_last : (k : Key) (v : List ℕ × ℕ) → (is_lt (version_cmp (k, 0) v) && true) ≡ key_lt k v.0
after_last k v = go (slice_cmp nat_cmp k v.0) refl
  where
    never : (o : Ordering) → o ≡ nat_cmp v.1 0 → is_lt o ≡ false
    never Less e = (let lt : v.1 < 0 = ranked v.1 0 Less e in absurd (omega (arith, lt)))
    never Equal e = refl
    never Greater e = refl

    go : (o : Ordering) → slice_cmp nat_cmp k v.0 ≡ o → (is_lt (ordering_then o (nat_cmp v.1 0)) && true) ≡ is_lt o
    go Less e = refl
    go Equal e = ap (λ b. b && true) (never (nat_cmp v.1 0) refl)
    go Greater e = refl

-- behind the last version that a key may have
pub searched : (k : Key) (es : WriteEntries)
    → entries_between version_cmp (Excluded (k, 0)) Unbounded es ≡ writes_where (key_lt k) es
searched k es = λ i. filter (λ e. after_last k e.0 i) es

from_newest : (k : Key) (m : ℕ) (v : List ℕ × ℕ) → v.1 ≤ m → (is_le (version_cmp (k, m) v) && true) ≡ key_le k v.0
from_newest k m v upto = go (slice_cmp nat_cmp k v.0) refl
  where
    not_past : (o : Ordering) → o ≡ nat_cmp v.1 m → is_le o ≡ true
    not_past Less e = refl
    not_past Equal e = refl
    not_past Greater e = (let lt : m < v.1 = ranked v.1 m Greater e in absurd (omega (arith, lt, upto)))

    go : (o : Ordering) → slice_cmp nat_cmp k v.0 ≡ o → (is_le (ordering_then o (nat_cmp v.1 m)) && true) ≡ is_le o
    go Less e = refl
    go Equal e = ap (λ b. b && true) (not_past (nat_cmp v.1 m) refl)
    go Greater e = refl

-- from the newest version on that a key may have
pub searched_from : (k : Key) (es : WriteEntries)
    → ((u : List ℕ × ℕ) (rec : WriteRec) → find u es ≡ Some rec → u.1 < 2 ^ 64)
    → entries_between version_cmp (Included (k, 2 ^ 64 - 1)) Unbounded es ≡ writes_where (key_le k) es
searched_from k [] fits = refl
searched_from k (e ∷ es) fits =
    let lt : e.0.1 < 2 ^ 64 = fits e.0 e.1 (find_first e.0 e es refl) in
    let upto : e.0.1 ≤ 2 ^ 64 - 1 = omega (arith, lt) in
    ap (λ b. cond b (e ∷ entries_between version_cmp (Included (k, 2 ^ 64 - 1)) Unbounded es)
    (entries_between version_cmp (Included (k, 2 ^ 64 - 1)) Unbounded es)) (from_newest k (2 ^ 64 - 1) e.0 upto)
    ∙ ap (λ (xs : WriteEntries). cond (key_le k e.0.0) (e ∷ xs) xs)
    (searched_from k es (λ u rec f. elim (cases_Bool (is_eq (version_cmp u e.0))) [
      | inl here ↦ fits u e.1 (lookup_head (tree.is_at (version_cmp u)) e es here)
      | inr other ↦ fits u rec (lookup_tail (tree.is_at (version_cmp u)) e es other ∙ f)
    ]))

pub searched_lock : (k : Key) (es : Locks)
    → entries_between (slice_cmp nat_cmp) (Included k) Unbounded es ≡ locks_where (key_le k) es
searched_lock k es = λ i. filter (λ e. and-true (key_le k e.0) i) es

-- ---- the first of an iterator's entries is taken to be at hand

pub coming_is : {K X : Type 0} (s t : List (K × X)) (o : Option (Bor K × Bor X)) → TakesFirst deref_pair s o t
    → coming o t ≡ s
coming_is s t None taken = sym taken.0
coming_is s t (Some x) taken = sym taken
