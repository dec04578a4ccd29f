-- The rows of the parts of a range, one behind the other, are the rows of the whole range.
use Rattle.std.proofs.Common.{◌≡◌, ◌≢◌, ◌⊎◌, ℕ, ◌+◌, ◌-◌, ◌<◌, ◌≤◌, ◌&&◌, ◌||◌, inl, inr, Bool, true, false, cond, List, [], ◌∷◌, ◌++◌, length, Option, Some, None, bytes_eq, nat_lt, IsTrue, refl, sym, ap, subst, ◌∙◌, arith, length-append}
use Rattle.std.proofs.lemmas.Bool.{cases_Bool, ltb-true, lt-ltb}
use Rattle.tx_types.specs.declared.key.Key.{Key}
use Rattle.tx_types.specs.declared.value.Value.{Value}
use Rattle.tx_types.specs.declared.mutation.KeyValue.{KeyValue}
use Rattle.tx_types.specs.Keys.{key_lt, key_le, is_between, IsRising, value_in, reaches}
use Rattle.tx_machine.specs.declared.step.ScanRead.{ScanRead}
use Rattle.tx_machine.specs.Keys.{covered}
use Rattle.tx_machine.specs.Machine.{Rows, Sees, SeesRows}
use Rattle.tx_machine.proofs.Basics.{key_test, none_is}
use Rattle.tx_plan.proofs.KeyOrder.{key_same, lt_trans, lt_itself, lt_le, le_itself, le_cases, le_lt, lt_then_le, not_lt}

-- ---- tests

and_both : (b c : Bool) → b ≡ true → c ≡ true → (b && c) ≡ true
and_both b c d e = rw (d, e) refl

and_split : (b c : Bool) → (b && c) ≡ true → (b ≡ true) × (c ≡ true)
and_split true c e = (refl, e)
and_split false c e = absurd (cc (e))

or_left : (b c : Bool) → b ≡ true → (b || c) ≡ true
or_left b c e = rw e refl

or_right : (b c : Bool) → c ≡ true → (b || c) ≡ true
or_right true c e = refl
or_right false c e = e

or_cases : (b c : Bool) → (b || c) ≡ true → (b ≡ true) ⊎ (c ≡ true)
or_cases true c e = inl refl
or_cases false c e = inr e

-- ---- rows

-- a key has a row
abbrev pub Has : List KeyValue → Key → Type 0
Has rows k = (v : Value) × (value_in rows k ≡ Some v)

has_or : (o : Option Value) → ((v : Value) × (o ≡ Some v)) ⊎ (o ≡ None)
has_or None = inr refl
has_or (Some v) = inl (v, refl)

own : (x : KeyValue) (xs : List KeyValue) → Has (x ∷ xs) x.key
own x xs = (x.value, rw (key_same x.key) refl)

-- what later rows have, all of them have
has_next : (x : KeyValue) (xs : List KeyValue) (k : Key) → Has xs k → Has (x ∷ xs) k
has_next x xs k h = elim (key_test x.key k) [
  | inl t ↦ (x.value, rw t.0 refl)
  | inr t ↦ (h.0, rw t.0 h.1)
]

-- the value that rows have at a key, or those behind them
value_first : (xs ys : List KeyValue) (k : Key) (v : Value) → value_in xs k ≡ Some v → value_in (xs ++ ys) k ≡ Some v
value_first [] ys k v e = absurd (cc (e))
value_first (x ∷ xs) ys k v e = elim (key_test x.key k) [
  | inl t ↦ (let now : Some x.value ≡ Some v = rw t.0 at e in rw t.0 now)
  | inr t ↦ (let later : value_in xs k ≡ Some v = rw t.0 at e in rw t.0 (value_first xs ys k v later))
]

value_behind : (xs ys : List KeyValue) (k : Key) → value_in xs k ≡ None → value_in (xs ++ ys) k ≡ value_in ys k
value_behind [] ys k e = refl
value_behind (x ∷ xs) ys k e = elim (key_test x.key k) [
  | inl t ↦ absurd (let now : Some x.value ≡ None = rw t.0 at e in cc (now))
  | inr t ↦ (let later : value_in xs k ≡ None = rw t.0 at e in rw t.0 (value_behind xs ys k later))
]

reaches_both : (xs ys : List KeyValue) (k : Key) → reaches (xs ++ ys) k ≡ true
    → (reaches xs k ≡ true) ⊎ (reaches ys k ≡ true)
reaches_both [] ys k e = inr e
reaches_both (x ∷ xs) ys k e = elim (or_cases (key_le k x.key) (reaches (xs ++ ys) k) e) [
  | inl now ↦ inl (or_left (key_le k x.key) (reaches xs k) now)
  | inr later ↦ elim (reaches_both xs ys k later) [
    | inl a ↦ inl (or_right (key_le k x.key) (reaches xs k) a)
    | inr b ↦ inr b
  ]
]

-- rows reach a key where one of them is at it or above
reached_by : (xs : List KeyValue) (k : Key) → reaches xs k ≡ true → (j : Key) × Has xs j × IsTrue (key_le k j)
reached_by [] k e = absurd (cc (e))
reached_by (x ∷ xs) k e = elim (or_cases (key_le k x.key) (reaches xs k) e) [
  | inl now ↦ (x.key, own x xs, now)
  | inr later ↦ (let rest = reached_by xs k later in (rest.0, has_next x xs rest.0 rest.1, rest.2))
]

reaches_own : (xs : List KeyValue) (k : Key) (v : Value) → value_in xs k ≡ Some v → reaches xs k ≡ true
reaches_own [] k v e = absurd (cc (e))
reaches_own (x ∷ xs) k v e = elim (key_test x.key k) [
  | inl t ↦ or_left (key_le k x.key) (reaches xs k) (subst (λ i. IsTrue (key_le k i)) (sym t.1) (le_itself k))
  | inr t ↦ (let later : value_in xs k ≡ Some v = rw t.0 at e in
      or_right (key_le k x.key) (reaches xs k) (reaches_own xs k v later))
]

rising_rest : (x : KeyValue) (xs : List KeyValue) → IsRising (x ∷ xs) → IsRising xs
rising_rest x [] r = tt
rising_rest x (y ∷ ys) r = r.1

-- rows that rise, and behind them others above each of them
rising_both : (xs ys : List KeyValue) → IsRising xs → IsRising ys
    → ((j k : Key) → Has xs j → Has ys k → IsTrue (key_lt j k)) → IsRising (xs ++ ys)
rising_both [] ys r s apart = s
rising_both (x ∷ []) [] r s apart = tt
rising_both (x ∷ []) (y ∷ ys) r s apart = (apart x.key y.key (own x []) (own y ys), s)
rising_both (x ∷ z ∷ xs) ys r s apart =
    (r.0, rising_both (z ∷ xs) ys r.1 s (λ j k a b. apart j k (has_next x (z ∷ xs) j a) b))

-- ---- the rows so far

module _ (rows_of : Rows) (from to : Key) (at limit : ℕ) where
  -- the whole scan, with these rows
  abbrev pub whole : List KeyValue → ScanRead
  whole rows = record { from = from; to = to; at = at; limit = limit; rows = rows }

  -- Rows of the part of the range whose keys pass a test: all of that part is seen in them.
  pub record SoFar (passed : Key → Type 0) (rows : List KeyValue) : Type 0 where
    pub rising : IsRising rows
    pub within : (k : Key) → Has rows k → IsTrue (is_between from to k) × passed k
    pub upto : length rows ≤ limit
    pub each : (k : Key) → IsTrue (is_between from to k) → passed k → Sees rows_of k at (value_in rows k)

  -- at first there are none
  pub none_yet : SoFar (λ k. IsTrue (key_lt k from)) []
  none_yet = record {
    rising = tt;
    within = λ k h. absurd (cc (h.1));
    upto = omega arith;
    each = λ k inside low. absurd
        (lt_itself k (lt_then_le k from k low (and_split (key_le from k) (key_lt k to) inside).0));
  }

  -- at last they are those of the whole
  pub all_seen : (rows : List KeyValue) → SoFar (λ k. Unit {0}) rows → SeesRows rows_of (whole rows)
  all_seen rows h = record {
    rising = h.rising;
    within = λ k v e. and_both (is_between from to k) (nat_lt (length rows) limit
        || reaches rows k) (h.within k (v, e)).0
        (or_right (nat_lt (length rows) limit) (reaches rows k) (reaches_own rows k v e));
    upto = h.upto;
    each = λ k inside. h.each k
        (and_split (is_between from to k) (nat_lt (length rows) limit || reaches rows k) inside).0 tt;
  }

  -- a part with no keys
  pub passed_by : (passed next : Key → Type 0) (rows : List KeyValue) → SoFar passed rows
      → ((k : Key) → Has rows k → next k) → ((k : Key) → IsTrue (is_between from to k) → next k → passed k)
      → SoFar next rows
  passed_by passed next rows h on back = record {
    rising = h.rising;
    within = λ k has. ((h.within k has).0, on k has);
    upto = h.upto;
    each = λ k inside here. h.each k inside (back k inside here);
  }

  -- the next part, from `low` up to `high`, whose rows are these, with the limit
  -- less the rows so far
  module _ (border low high : Key) (rows found : List KeyValue) (so_far : SoFar (λ k. IsTrue (key_lt k border)) rows)
      (part : SeesRows rows_of record { from = low; to = high; at = at; limit = limit - length rows; rows = found })
      (above : (k : Key) → IsTrue (is_between low high k)
      → IsTrue (is_between from to k) × IsTrue (key_le border k)) where
    abbrev read : ScanRead
    read = record { from = low; to = high; at = at; limit = limit - length rows; rows = found }

    -- what a row of the part is
    found_within : (k : Key) → Has found k → IsTrue (is_between low high k)
    found_within k h = (and_split (is_between low high k) (nat_lt (length found) (limit - length rows)
        || reaches found k) (part.within k h.0 h.1)).0

    apart : (j k : Key) → Has rows j → Has found k → IsTrue (key_lt j k)
    apart j k a b = lt_then_le j border k (so_far.within j a).1 (above k (found_within k b)).1

    joined_rising : IsRising (rows ++ found)
    joined_rising = rising_both rows found so_far.rising part.rising apart

    joined_length : length (rows ++ found) ≡ length rows + length found
    joined_length = length-append rows found

    joined_upto : length (rows ++ found) ≤ limit
    joined_upto = omega (arith, joined_length, so_far.upto, part.upto)

    -- below the border the rows so far tell
    before : (k : Key) → IsTrue (key_lt k border) → value_in (rows ++ found) k ≡ value_in rows k
    before k below = elim (has_or (value_in rows k)) [
      | inl h ↦ value_first rows found k h.0 h.1 ∙ sym h.1
      | inr none ↦ value_behind rows found k none
          ∙ (none_is (value_in found k)
          (λ v e. lt_itself k (lt_then_le k border k below (above k (found_within k (v, e))).1)) ∙ sym none)
    ]

    -- from it on the part's
    behind : (k : Key) → IsTrue (key_le border k) → value_in (rows ++ found) k ≡ value_in found k
    behind k from_border =
        value_behind rows found k
        (none_is (value_in rows k) (λ v e. lt_itself k (lt_then_le k border k (so_far.within k (v, e)).1 from_border)))

    seen_before : (k : Key) → IsTrue (is_between from to k) → IsTrue (key_lt k border)
        → Sees rows_of k at (value_in (rows ++ found) k)
    seen_before k inside below = subst (Sees rows_of k at) (sym (before k below)) (so_far.each k inside below)

    seen_behind : (k : Key) → IsTrue (is_between low high k)
        → (nat_lt (length found) (limit - length rows) || reaches found k) ≡ true
        → Sees rows_of k at (value_in (rows ++ found) k)
    seen_behind k inside reached =
        subst (Sees rows_of k at) (sym (behind k (above k inside).1))
        (part.each k (and_both (is_between low high k) (nat_lt (length found) (limit - length rows)
        || reaches found k) inside reached))

    -- which rows there are
    joined_cases : (k : Key) → Has (rows ++ found) k → Has rows k ⊎ Has found k
    joined_cases k h = elim (has_or (value_in rows k)) [
      | inl a ↦ inl a
      | inr none ↦ inr (h.0, sym (value_behind rows found k none) ∙ h.1)
    ]

    joined_within : (k : Key) → Has (rows ++ found) k → IsTrue (is_between from to k)
    joined_within k h = elim (joined_cases k h) [
      | inl a ↦ (so_far.within k a).0
      | inr b ↦ (above k (found_within k b)).0
    ]

    -- more are to come: the part is seen whole
    pub joined_more : (next : Key → Type 0) → length (rows ++ found) < limit → ((k : Key) → Has rows k → next k)
        → ((k : Key) → IsTrue (is_between low high k) → next k)
        → ((k : Key) → IsTrue (is_between from to k) → next k
        → IsTrue (key_lt k border) ⊎ IsTrue (is_between low high k)) → SoFar next (rows ++ found)
    joined_more next short old new cover = record {
      rising = joined_rising;
      within = λ k h. (
        joined_within k h,
        elim (joined_cases k h) [ inl a ↦ old k a | inr b ↦ new k (found_within k b) ],
      );
      upto = joined_upto;
      each = λ k inside here. elim (cover k inside here) [
        | inl below ↦ seen_before k inside below
        | inr there ↦ seen_behind k there
            (or_left (nat_lt (length found) (limit - length rows)) (reaches found k)
            (lt-ltb (length found) (limit - length rows) (omega (arith, short, joined_length))))
      ];
    }

    -- they are enough: what they reach is seen
    pub joined_full : ((k : Key) → IsTrue (is_between from to k) → IsTrue (key_le border k) → IsTrue (key_lt k high)
        → IsTrue (is_between low high k)) → limit ≤ length (rows ++ found) → SeesRows rows_of (whole (rows ++ found))
    joined_full lands full = record {
      rising = joined_rising;
      within = λ k v e. and_both (is_between from to k) (nat_lt (length (rows ++ found)) limit
          || reaches (rows ++ found) k) (joined_within k (v, e))
          (or_right (nat_lt (length (rows ++ found)) limit) (reaches (rows ++ found) k)
          (reaches_own (rows ++ found) k v e));
      upto = joined_upto;
      each = λ k inside. by k
          (and_split (is_between from to k) (nat_lt (length (rows ++ found)) limit
          || reaches (rows ++ found) k) inside);
    }
      where
        in_part : (k j : Key) → IsTrue (is_between from to k) → Has found j → IsTrue (key_le k j)
            → reaches found k ≡ true → Sees rows_of k at (value_in (rows ++ found) k)
        in_part k j inside h le reached = elim (cases_Bool (key_lt k border)) [
          | inl below ↦ seen_before k inside below
          | inr not_below ↦ seen_behind k
              (lands k inside (not_lt k border not_below)
              (le_lt k j high le (and_split (key_le low j) (key_lt j high) (found_within j h)).1))
              (or_right (nat_lt (length found) (limit - length rows)) (reaches found k) reached)
        ]

        by : (k : Key) → IsTrue (is_between from to k)
            × ((nat_lt (length (rows ++ found)) limit || reaches (rows ++ found) k) ≡ true)
            → Sees rows_of k at (value_in (rows ++ found) k)
        by k (inside, covers) =
            elim (or_cases (nat_lt (length (rows ++ found)) limit) (reaches (rows ++ found) k) covers) [
              | inl short ↦ absurd (let lt : length (rows ++ found) < limit =
                  ltb-true (length (rows ++ found)) limit short in omega (arith, lt, full))
              | inr reached ↦ elim (reaches_both rows found k reached) [
                | inl a ↦ (let row = reached_by rows k a in
                    seen_before k inside (le_lt k row.0 border row.2 (so_far.within row.0 row.1).1))
                | inr b ↦ (let row = reached_by found k b in in_part k row.0 inside row.1 row.2 b)
              ]
            ]
