-- What was entered of keys, over rows.
use Rattle.std.proofs.Common.{◌≡◌, ◌≢◌, ◌⊎◌, ℕ, inl, inr, Bool, true, false, cond, List, [], ◌∷◌, ◌++◌, length, Option, Some, None, bytes_eq, IsTrue, refl, sym, ap, subst, ◌∙◌, arith}
use Rattle.std.proofs.Common.{take, drop, take_all, ◌-◌}
use Rattle.std.proofs.lemmas.List.{length-drop}
use Rattle.std.specs.List.{prefix_len, list_any, insert, remove}
use Rattle.std.proofs.Math.Numerals.{one-add}
use Rattle.std.proofs.lemmas.Bool.{cases_Bool}
use Rattle.tx_types.specs.declared.key.Key.{Key}
use Rattle.tx_types.specs.declared.value.Value.{Value}
use Rattle.tx_types.specs.declared.mutation.KeyValue.{KeyValue}
use Rattle.tx_types.specs.declared.mutation.Change.{Change}
use Rattle.tx_types.specs.declared.mutation.Mutation.{Mutation}
use Rattle.tx_types.specs.declared.mutation.Mutation.TheVariants as mutation
use Rattle.tx_types.specs.Keys.{key_lt, IsRising, value_in, is_visible}
use Rattle.tx_machine.proofs.Basics.{key_test}
use Rattle.tx_plan.proofs.KeyOrder.{key_same, lt_trans, lt_itself, le_cases, not_lt, lt_other, other_key}
use Rattle.tx_update.specs.Ranges.{row_of, row_with, with_value, is_first_of, entry_in, value_of, over, AreEntered}
use Rattle.tx_laws.proofs.Pages.{rising_rest}

-- all rows lie above a key
abbrev AreAbove : Key → List KeyValue → Type 0
AreAbove k [] = Unit {0}
AreAbove k (x ∷ xs) = IsTrue (key_lt k x.key) × AreAbove k xs

above_more : (j k : Key) → IsTrue (key_lt j k) → (xs : List KeyValue) → AreAbove k xs → AreAbove j xs
above_more j k lt [] h = tt
above_more j k lt (x ∷ xs) (h, hs) = (lt_trans j k x.key lt h, above_more j k lt xs hs)

above_rest : (x : KeyValue) (xs : List KeyValue) → IsRising (x ∷ xs) → AreAbove x.key xs
above_rest x [] r = tt
above_rest x (y ∷ ys) r = (r.0, above_more x.key y.key r.0 ys (above_rest y ys r.1))

none_above : (k : Key) (xs : List KeyValue) → AreAbove k xs → value_in xs k ≡ None
none_above k [] h = refl
none_above k (x ∷ xs) (h, hs) = elim (key_test x.key k) [
  | inl t ↦ absurd (lt_itself k (subst (λ j. IsTrue (key_lt k j)) t.1 h))
  | inr t ↦ rw t.0 (none_above k xs hs)
]

rising_by : (x : KeyValue) (xs : List KeyValue) → AreAbove x.key xs → IsRising xs → IsRising (x ∷ xs)
rising_by x [] h r = tt
rising_by x (y ∷ ys) (h, hs) r = (h, r)

-- the value of a key in one row
row_value : (k : Key) (o : Option Value) → value_in (row_of k o) k ≡ o
row_value k None = refl
row_value k (Some v) = rw (key_same k) refl

row_other : (k j : Key) (o : Option Value) (xs : List KeyValue) → bytes_eq k j ≡ false
    → value_in (row_of k o ++ xs) j ≡ value_in xs j
row_other k j None xs ne = refl
row_other k j (Some v) xs ne = rw ne refl

row_first : (k : Key) (o : Option Value) (xs : List KeyValue) → AreAbove k xs → value_in (row_of k o ++ xs) k ≡ o
row_first k None xs above = none_above k xs above
row_first k (Some v) xs above = rw (key_same k) refl

row_rising : (k : Key) (o : Option Value) (xs : List KeyValue) → AreAbove k xs → IsRising xs
    → IsRising (row_of k o ++ xs)
row_rising k None xs above r = r
row_rising k (Some v) xs above r = rising_by (record { key = k; value = v }) xs above r

-- what stays of rows of which the first does not lie below a key
abbrev rest_of : KeyValue → List KeyValue → Key → List KeyValue
rest_of x xs k = cond (bytes_eq x.key k) xs (x ∷ xs)

rest_above : (x : KeyValue) (xs : List KeyValue) (k : Key) → IsRising (x ∷ xs) → key_lt x.key k ≡ false
    → AreAbove k (rest_of x xs k) × IsRising (rest_of x xs k)
rest_above x xs k r not_below = elim (key_test x.key k) [
  | inl t ↦ rw t.0 (subst (λ j. AreAbove j xs) t.1 (above_rest x xs r), rising_rest x xs r)
  | inr t ↦ rw t.0 (elim (le_cases k x.key (not_lt x.key k not_below)) [
    | inl above ↦ ((above, above_more k x.key above xs (above_rest x xs r)), r)
    | inr same ↦ absurd (t.1 (sym same))
  ])
]

rest_value : (x : KeyValue) (xs : List KeyValue) (k j : Key) → j ≢ k → value_in (rest_of x xs k) j ≡ value_in (x ∷ xs) j
rest_value x xs k j ne = elim (key_test x.key k) [
  | inl t ↦ rw t.0 (let other : bytes_eq x.key j ≡ false = other_key x.key j (λ e. ne (sym e ∙ t.1)) in rw other refl)
  | inr t ↦ rw t.0 refl
]

row_above : (j k : Key) (o : Option Value) (xs : List KeyValue) → IsTrue (key_lt j k) → AreAbove j xs
    → AreAbove j (row_of k o ++ xs)
row_above j k None xs lt h = h
row_above j k (Some v) xs lt h = (lt, h)

rest_stays : (j : Key) (x : KeyValue) (xs : List KeyValue) (k : Key) → AreAbove j (x ∷ xs) → AreAbove j (rest_of x xs k)
rest_stays j x xs k h = elim (cases_Bool (bytes_eq x.key k)) [
  | inl same ↦ rw same h.1
  | inr other ↦ rw other h
]

with_above : (j : Key) (xs : List KeyValue) (k : Key) (o : Option Value) → IsTrue (key_lt j k) → AreAbove j xs
    → AreAbove j (with_value xs k o)
with_above j [] k None lt h = tt
with_above j [] k (Some v) lt h = (lt, tt)
with_above j (x ∷ xs) k o lt h = elim (cases_Bool (key_lt x.key k)) [
  | inl below ↦ rw below (h.0, with_above j xs k o lt h.1)
  | inr not_below ↦ rw not_below (row_above j k o (rest_of x xs k) lt (rest_stays j x xs k h))
]

-- the rows with a value at a key rise
pub with_rising : (xs : List KeyValue) (k : Key) (o : Option Value) → IsRising xs → IsRising (with_value xs k o)
with_rising [] k None r = tt
with_rising [] k (Some v) r = tt
with_rising (x ∷ xs) k o r = elim (cases_Bool (key_lt x.key k)) [
  | inl below ↦ rw below (rising_by x (with_value xs k o) (with_above x.key xs k o below (above_rest x xs r))
      (with_rising xs k o (rising_rest x xs r)))
  | inr not_below ↦ rw not_below (let both =
      rest_above x xs k r not_below in row_rising k o (rest_of x xs k) both.0 both.1)
]

-- they tell it there
pub with_same : (xs : List KeyValue) (k : Key) (o : Option Value) → IsRising xs → value_in (with_value xs k o) k ≡ o
with_same [] k o r = row_value k o
with_same (x ∷ xs) k o r = elim (cases_Bool (key_lt x.key k)) [
  | inl below ↦ rw below (let other : bytes_eq x.key k ≡ false = lt_other x.key k below in
      rw other (with_same xs k o (rising_rest x xs r)))
  | inr not_below ↦ rw not_below (row_first k o (rest_of x xs k) (rest_above x xs k r not_below).0)
]

-- and elsewhere what they told
pub with_other : (xs : List KeyValue) (k : Key) (o : Option Value) (j : Key) → j ≢ k
    → value_in (with_value xs k o) j ≡ value_in xs j
with_other [] k None j ne = refl
with_other [] k (Some v) j ne = (let other : bytes_eq k j ≡ false = other_key k j (λ e. ne (sym e)) in rw other refl)
with_other (x ∷ xs) k o j ne = elim (cases_Bool (key_lt x.key k)) [
  | inl below ↦ rw below (elim (cases_Bool (bytes_eq x.key j)) [
    | inl same ↦ rw same refl
    | inr other ↦ rw other (with_other xs k o j ne)
  ])
  | inr not_below ↦ rw not_below (row_other k j o (rest_of x xs k) (other_key k j (λ e. ne (sym e)))
      ∙ rest_value x xs k j ne)
]

-- ---- the place of a key among rows

abbrev pub place : List KeyValue → Key → ℕ
place xs k = prefix_len (λ (x : KeyValue). key_lt x.key k) xs

pub removed : (xs : List KeyValue) (k : Key) → is_first_of (drop (place xs k) xs) k ≡ true
    → remove xs (place xs k) ≡ with_value xs k None
removed [] k is = absurd (cc (is))
removed (x ∷ xs) k is = elim (cases_Bool (key_lt x.key k)) [
  | inl below ↦ (let here : is_first_of (drop (place xs k) xs) k ≡ true = rw (below, one-add) at is in
      rw (below, one-add) (ap (λ (ys : List KeyValue). x ∷ ys) (removed xs k here)))
  | inr not_below ↦ (let same : bytes_eq x.key k ≡ true = rw not_below at is in rw (not_below, same) refl)
]

pub kept : (xs : List KeyValue) (k : Key) → is_first_of (drop (place xs k) xs) k ≡ false → xs ≡ with_value xs k None
kept [] k is = refl
kept (x ∷ xs) k is = elim (cases_Bool (key_lt x.key k)) [
  | inl below ↦ (let here : is_first_of (drop (place xs k) xs) k ≡ false = rw (below, one-add) at is in
      rw below (ap (λ (ys : List KeyValue). x ∷ ys) (kept xs k here)))
  | inr not_below ↦ (let other : bytes_eq x.key k ≡ false = rw not_below at is in rw (not_below, other) refl)
]

pub put_in : (xs : List KeyValue) (k : Key) (v : Value)
    → insert (with_value xs k None) (place xs k) (row_with k v) ≡ with_value xs k (Some v)
put_in [] k v = refl
put_in (x ∷ xs) k v = elim (cases_Bool (key_lt x.key k)) [
  | inl below ↦ rw (below, one-add) (ap (λ (ys : List KeyValue). x ∷ ys) (put_in xs k v))
  | inr not_below ↦ rw not_below refl
]

-- whether the row at the place of a key is of it, by the rows from there on
pub first_at : (xs rows : List KeyValue) (at : ℕ) (k : Key) (b : Bool) → xs ≡ rows → at ≡ place rows k
    → b ≡ is_first_of (take (length xs - at) (drop at xs)) k → b ≡ is_first_of (drop (place rows k) rows) k
first_at xs rows at k b same here is =
    let all : take (length xs - at) (drop at xs) ≡ drop at xs =
    take_all (length xs - at) (drop at xs) (omega (arith, length-drop at xs)) in
    is ∙ ap (λ (ys : List KeyValue). is_first_of ys k) all ∙ ap (λ (n : ℕ). is_first_of (drop n xs) k) here
    ∙ ap (λ (ys : List KeyValue). is_first_of (drop (place rows k) ys) k) same

-- ---- what the first change of a key does to it

pub not_entered : (cs : List Change) (k : Key) → list_any (λ (c : Change). bytes_eq c.key k) cs ≡ false
    → entry_in cs k ≡ None
not_entered [] k none = refl
not_entered (c ∷ cs) k none = elim (cases_Bool (bytes_eq c.key k)) [
  | inl same ↦ absurd (let is : true ≡ false = rw same at none in cc (is))
  | inr other ↦ rw other (not_entered cs k (rw other at none))
]

pub was_entered : (cs : List Change) (k : Key) → list_any (λ (c : Change). bytes_eq c.key k) cs ≡ true
    → (m : Mutation) × (entry_in cs k ≡ Some m)
was_entered [] k is = absurd (cc (is))
was_entered (c ∷ cs) k is = elim (cases_Bool (bytes_eq c.key k)) [
  | inl same ↦ (c.mutation, rw same refl)
  | inr other ↦ (let rest = was_entered cs k (rw other at is) in (rest.0, rw other rest.1))
]

entry_first : (cs : List Change) (c : Change) (k : Key) (m : Mutation) → entry_in cs k ≡ Some m
    → entry_in (cs ++ c ∷ []) k ≡ Some m
entry_first [] c k m is = absurd (cc (is))
entry_first (d ∷ cs) c k m is = elim (cases_Bool (bytes_eq d.key k)) [
  | inl same ↦ rw same (rw same at is)
  | inr other ↦ rw other (entry_first cs c k m (rw other at is))
]

entry_last : (cs : List Change) (c : Change) (k : Key) → entry_in cs k ≡ None
    → entry_in (cs ++ c ∷ []) k ≡ cond (bytes_eq c.key k) (Some c.mutation) None
entry_last [] c k none = refl
entry_last (d ∷ cs) c k none = elim (cases_Bool (bytes_eq d.key k)) [
  | inl same ↦ absurd (let is : Some d.mutation ≡ None = rw same at none in cc (is))
  | inr other ↦ rw other (entry_last cs c k (rw other at none))
]

entry_or : (o : Option Mutation) → ((m : Mutation) × (o ≡ Some m)) ⊎ (o ≡ None)
entry_or None = inr refl
entry_or (Some m) = inl (m, refl)

entry_other : (cs : List Change) (c : Change) (k : Key) → bytes_eq c.key k ≡ false
    → entry_in (cs ++ c ∷ []) k ≡ entry_in cs k
entry_other cs c k other = elim (entry_or (entry_in cs k)) [
  | inl there ↦ entry_first cs c k there.0 there.1 ∙ sym there.1
  | inr none ↦ (let last : entry_in (cs ++ c ∷ []) k ≡ None = rw other at (entry_last cs c k none) in last ∙ sym none)
]

unseen : (m : Mutation) (o : Option Value) → is_visible m ≡ false → over (Some m) o ≡ o
unseen (mutation.Put v) o e = absurd (cc (e))
unseen (mutation.Insert v) o e = absurd (cc (e))
unseen mutation.Delete o e = absurd (cc (e))
unseen mutation.Lock o e = refl

seen : (m : Mutation) (o : Option Value) → is_visible m ≡ true → over (Some m) o ≡ value_of m
seen (mutation.Put v) o e = refl
seen (mutation.Insert v) o e = refl
seen mutation.Delete o e = refl
seen mutation.Lock o e = absurd (cc (e))

-- ---- changes entered over rows, one after another

module _ (test : Key → Bool) (old : List KeyValue) where
  pub none_entered : IsRising old → ((k : Key) (v : Value) → value_in old k ≡ Some v → IsTrue (test k))
      → AreEntered test [] old old
  none_entered rising within = record { rising = rising; within = within; each = λ k inside. refl }

  module _ (cs : List Change) (c : Change) (new : List KeyValue) (so_far : AreEntered test cs old new) where
    -- a change that leaves what is seen of a key
    passed : ((k : Key) → IsTrue (test k) → over (entry_in (cs ++ c ∷ []) k) (value_in old k)
        ≡ over (entry_in cs k) (value_in old k)) → AreEntered test (cs ++ c ∷ []) old new
    passed same = record {
      rising = so_far.rising;
      within = so_far.within;
      each = λ k inside. so_far.each k inside ∙ sym (same k inside);
    }

    pub passed_unseen : is_visible c.mutation ≡ false → AreEntered test (cs ++ c ∷ []) old new
    passed_unseen lock = passed (λ k inside. elim (entry_or (entry_in cs k)) [
      | inl there ↦ ap (λ o. over o (value_in old k)) (entry_first cs c k there.0 there.1 ∙ sym there.1)
      | inr none ↦ elim (cases_Bool (bytes_eq c.key k)) [
        | inl same ↦ (let last : entry_in (cs ++ c ∷ []) k ≡ Some c.mutation = rw same at (entry_last cs c k none) in
            ap (λ o. over o (value_in old k)) last ∙ unseen c.mutation (value_in old k) lock
            ∙ ap (λ o. over o (value_in old k)) (sym none))
        | inr other ↦ ap (λ o. over o (value_in old k)) (entry_other cs c k other)
      ]
    ])

    pub passed_outside : test c.key ≡ false → AreEntered test (cs ++ c ∷ []) old new
    passed_outside outside = passed (λ k inside. elim (key_test c.key k) [
      | inl same ↦ absurd (let is : test k ≡ false = subst (λ j. test j ≡ false) same.1 outside in cc (is, inside))
      | inr other ↦ ap (λ o. over o (value_in old k)) (entry_other cs c k other.0)
    ])

    pub passed_later : list_any (λ (d : Change). bytes_eq d.key c.key) cs ≡ true
        → AreEntered test (cs ++ c ∷ []) old new
    passed_later before = passed (λ k inside. elim (entry_or (entry_in cs k)) [
      | inl there ↦ ap (λ o. over o (value_in old k)) (entry_first cs c k there.0 there.1 ∙ sym there.1)
      | inr none ↦ elim (key_test c.key k) [
        | inl same ↦ absurd (let first = was_entered cs c.key before in
            let none_here : entry_in cs c.key ≡ None = subst (λ j. entry_in cs j ≡ None) (sym same.1) none in
            let both : Some first.0 ≡ None = sym first.1 ∙ none_here in cc (both))
        | inr other ↦ ap (λ o. over o (value_in old k)) (entry_other cs c k other.0)
      ]
    ])

    pub entered_more : is_visible c.mutation ≡ true → test c.key ≡ true
        → list_any (λ (d : Change). bytes_eq d.key c.key) cs ≡ false
        → AreEntered test (cs ++ c ∷ []) old (with_value new c.key (value_of c.mutation))
    entered_more visible inside first = record {
      rising = with_rising new c.key (value_of c.mutation) so_far.rising;
      within = λ k v e. elim (key_test c.key k) [
        | inl same ↦ subst (λ j. IsTrue (test j)) same.1 inside
        | inr other ↦ so_far.within k v (sym (with_other new c.key (value_of c.mutation) k (λ e. other.1 (sym e))) ∙ e)
      ];
      each = λ k in_it. elim (key_test c.key k) [
        | inl same ↦ (let here : entry_in (cs ++ c ∷ []) k ≡ Some c.mutation =
            rw same.0 at (entry_last cs c k (subst (λ j. entry_in cs j ≡ None) same.1 (not_entered cs c.key first))) in
            subst (λ j. value_in (with_value new c.key (value_of c.mutation)) j ≡ value_of c.mutation) same.1
            (with_same new c.key (value_of c.mutation) so_far.rising)
            ∙ sym (seen c.mutation (value_in old k) visible) ∙ ap (λ o. over o (value_in old k)) (sym here))
        | inr other ↦ with_other new c.key (value_of c.mutation) k (λ e. other.1 (sym e)) ∙ so_far.each k in_it
            ∙ ap (λ o. over o (value_in old k)) (sym (entry_other cs c k other.0))
      ];
    }

-- one change more, among all
module _ (test : Key → Bool) (old new next : List KeyValue) (cs all : List Change) (c : Change) where
  pub entered_step : (k : Key) (o : Option Value) → all ≡ cs ++ c ∷ [] → AreEntered test cs old new
      → is_visible c.mutation ≡ true → test c.key ≡ true → list_any (λ (d : Change). bytes_eq d.key c.key) cs ≡ false
      → k ≡ c.key → o ≡ value_of c.mutation → next ≡ with_value new k o → AreEntered test all old next
  entered_step k o seam so_far visible inside first key value is =
      subst (λ (xs : List KeyValue). AreEntered test all old xs)
      (sym (is ∙ ap (λ (j : Key). with_value new j o) key ∙ ap (with_value new c.key) value))
      (subst (λ (ds : List Change). AreEntered test ds old (with_value new c.key (value_of c.mutation))) (sym seam)
      (entered_more test old cs c new so_far visible inside first))

  passed_step : all ≡ cs ++ c ∷ [] → AreEntered test (cs ++ c ∷ []) old new → next ≡ new
      → AreEntered test all old next
  passed_step seam passed is =
      subst (λ (xs : List KeyValue). AreEntered test all old xs) (sym is)
      (subst (λ (ds : List Change). AreEntered test ds old new) (sym seam) passed)

  pub passed_step_unseen : all ≡ cs ++ c ∷ [] → AreEntered test cs old new → is_visible c.mutation ≡ false → next ≡ new
      → AreEntered test all old next
  passed_step_unseen seam so_far lock is = passed_step seam (passed_unseen test old cs c new so_far lock) is

  pub passed_step_outside : all ≡ cs ++ c ∷ [] → AreEntered test cs old new → test c.key ≡ false → next ≡ new
      → AreEntered test all old next
  passed_step_outside seam so_far outside is = passed_step seam (passed_outside test old cs c new so_far outside) is

  pub passed_step_later : all ≡ cs ++ c ∷ [] → AreEntered test cs old new
      → list_any (λ (d : Change). bytes_eq d.key c.key) cs ≡ true → next ≡ new → AreEntered test all old next
  passed_step_later seam so_far before is = passed_step seam (passed_later test old cs c new so_far before) is
