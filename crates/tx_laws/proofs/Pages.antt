-- The rows of pages, one behind the other, are the rows of their range.
use Rattle.std.proofs.Common.{◌≡◌, ◌⊎◌, ℕ, ◌<◌, ◌&&◌, ◌||◌, inl, inr, Bool, true, false, List, [], ◌∷◌, ◌++◌, length, Option, Some, None, nat_lt, IsTrue, refl, sym, subst, ◌∙◌}
use Rattle.std.proofs.lemmas.Bool.{cases_Bool, lt-ltb}
use Rattle.tx_types.specs.declared.key.Key.{Key}
use Rattle.tx_types.specs.declared.value.Value.{Value}
use Rattle.tx_types.specs.declared.mutation.KeyValue.{KeyValue}
use Rattle.tx_types.specs.Keys.{key_lt, key_le, is_between, is_scanned, IsRising, value_in, reaches}
use Rattle.tx_machine.proofs.Basics.{key_test, none_is}
use Rattle.tx_plan.proofs.KeyOrder.{key_same, lt_trans, lt_itself, lt_le, le_itself, le_cases, le_lt, lt_then_le, not_lt}
use Rattle.tx_laws.specs.Rows.{AreRowsOf}

-- ---- tests

pub and_both : (b c : Bool) → b ≡ true → c ≡ true → (b && c) ≡ true
and_both b c d e = rw (d, e) refl

pub and_split : (b c : Bool) → (b && c) ≡ true → (b ≡ true) × (c ≡ true)
and_split true c e = (refl, e)
and_split false c e = absurd (cc (e))

or_left : (b c : Bool) → b ≡ true → (b || c) ≡ true
or_left b c e = rw e refl

or_right : (b c : Bool) → c ≡ true → (b || c) ≡ true
or_right true c e = refl
or_right false c e = e

pub le_trans : (i j k : Key) → IsTrue (key_le i j) → IsTrue (key_le j k) → IsTrue (key_le i k)
le_trans i j k p q = elim (le_cases i j p) [
  | inl x ↦ lt_le i k (lt_then_le i j k x q)
  | inr e ↦ subst (λ x. IsTrue (key_le x k)) (sym e) q
]

pub between : (low high k : Key) → IsTrue (key_le low k) → IsTrue (key_lt k high) → IsTrue (is_between low high k)
between low high k p q = and_both (key_le low k) (key_lt k high) p q

pub between_both : (low high k : Key) → IsTrue (is_between low high k) → IsTrue (key_le low k) × IsTrue (key_lt k high)
between_both low high k e = and_split (key_le low k) (key_lt k high) e

-- ---- rows

-- a key has a row
abbrev pub Has : List KeyValue → Key → Type 0
Has rows k = (v : Value) × (value_in rows k ≡ Some v)

pub has_or : (o : Option Value) → ((v : Value) × (o ≡ Some v)) ⊎ (o ≡ None)
has_or None = inr refl
has_or (Some v) = inl (v, refl)

pub own_value : (x : KeyValue) (xs : List KeyValue) → value_in (x ∷ xs) x.key ≡ Some x.value
own_value x xs = rw (key_same x.key) refl

own : (x : KeyValue) (xs : List KeyValue) → Has (x ∷ xs) x.key
own x xs = (x.value, own_value x xs)

has_next : (x : KeyValue) (xs : List KeyValue) (k : Key) → Has xs k → Has (x ∷ xs) k
has_next x xs k h = elim (key_test x.key k) [
  | inl t ↦ (x.value, rw t.0 refl)
  | inr t ↦ (h.0, rw t.0 h.1)
]

pub value_first : (xs ys : List KeyValue) (k : Key) (v : Value) → value_in xs k ≡ Some v
    → value_in (xs ++ ys) k ≡ Some v
value_first [] ys k v e = absurd (cc (e))
value_first (x ∷ xs) ys k v e = elim (key_test x.key k) [
  | inl t ↦ (let now : Some x.value ≡ Some v = rw t.0 at e in rw t.0 now)
  | inr t ↦ (let later : value_in xs k ≡ Some v = rw t.0 at e in rw t.0 (value_first xs ys k v later))
]

pub value_behind : (xs ys : List KeyValue) (k : Key) → value_in xs k ≡ None → value_in (xs ++ ys) k ≡ value_in ys k
value_behind [] ys k e = refl
value_behind (x ∷ xs) ys k e = elim (key_test x.key k) [
  | inl t ↦ absurd (let now : Some x.value ≡ None = rw t.0 at e in cc (now))
  | inr t ↦ (let later : value_in xs k ≡ None = rw t.0 at e in rw t.0 (value_behind xs ys k later))
]

reaches_last : (xs : List KeyValue) (x : KeyValue) (k : Key) → IsTrue (key_le k x.key) → reaches (xs ++ x ∷ []) k ≡ true
reaches_last [] x k le = or_left (key_le k x.key) false le
reaches_last (y ∷ ys) x k le = or_right (key_le k y.key) (reaches (ys ++ x ∷ []) k) (reaches_last ys x k le)

pub rising_rest : (x : KeyValue) (xs : List KeyValue) → IsRising (x ∷ xs) → IsRising xs
rising_rest x [] r = tt
rising_rest x (y ∷ ys) r = r.1

-- rows that rise, and behind them others above each of them
pub rising_both : (xs ys : List KeyValue) → IsRising xs → IsRising ys
    → ((j k : Key) → Has xs j → Has ys k → IsTrue (key_lt j k)) → IsRising (xs ++ ys)
rising_both [] ys r s apart = s
rising_both (x ∷ []) [] r s apart = tt
rising_both (x ∷ []) (y ∷ ys) r s apart = (apart x.key y.key (own x []) (own y ys), s)
rising_both (x ∷ z ∷ xs) ys r s apart =
    (r.0, rising_both (z ∷ xs) ys r.1 s (λ j k a b. apart j k (has_next x (z ∷ xs) j a) b))

-- the rows before the last rise, and lie below it
rising_front : (xs : List KeyValue) (x : KeyValue) → IsRising (xs ++ x ∷ []) → IsRising xs
rising_front [] x r = tt
rising_front (y ∷ []) x r = tt
rising_front (y ∷ z ∷ ys) x r = (r.0, rising_front (z ∷ ys) x r.1)

below_last : (xs : List KeyValue) (x : KeyValue) → IsRising (xs ++ x ∷ []) → (k : Key) → Has xs k
    → IsTrue (key_lt k x.key)
below_last [] x r k h = absurd (cc (h.1))
below_last (y ∷ []) x r k h = elim (key_test y.key k) [
  | inl t ↦ subst (λ j. IsTrue (key_lt j x.key)) t.1 r.0
  | inr t ↦ absurd (let none : None ≡ Some h.0 = rw t.0 at h.1 in cc (none))
]
below_last (y ∷ z ∷ ys) x r k h = elim (key_test y.key k) [
  | inl t ↦ subst (λ j. IsTrue (key_lt j x.key)) t.1
      (lt_trans y.key z.key x.key r.0 (below_last (z ∷ ys) x r.1 z.key (own z ys)))
  | inr t ↦ (let later : value_in (z ∷ ys) k ≡ Some h.0 = rw t.0 at h.1 in below_last (z ∷ ys) x r.1 k (h.0, later))
]

-- ---- rows of the keys that pass a test

module _ (tells : Key → Option Value → Type 0) where
  -- there are none in an empty range
  pub none_there : (test : Key → Bool) → ((k : Key) → IsTrue (test k) → ⊥) → AreRowsOf test tells []
  none_there test empty = record {
    rising = tt;
    within = λ k v e. absurd (cc (e));
    each = λ k inside. absurd (empty k inside);
  }

  pub tells_more : (also : Key → Option Value → Type 0) → ((k : Key) (o : Option Value) → tells k o → also k o)
      → (test : Key → Bool) (rows : List KeyValue) → AreRowsOf test tells rows → AreRowsOf test also rows
  tells_more also on test rows h = record {
    rising = h.rising;
    within = h.within;
    each = λ k inside. on k (value_in rows k) (h.each k inside);
  }

  pub same_keys : (test same : Key → Bool) → ((k : Key) → IsTrue (test k) → IsTrue (same k))
      → ((k : Key) → IsTrue (same k) → IsTrue (test k)) → (rows : List KeyValue) → AreRowsOf test tells rows
      → AreRowsOf same tells rows
  same_keys test same on back rows h = record {
    rising = h.rising;
    within = λ k v e. on k (h.within k v e);
    each = λ k inside. h.each k (back k inside);
  }

  module _ (from to : Key) (limit : ℕ) where
    -- a page that is not full has the whole range
    pub short_page : (page : List KeyValue) → AreRowsOf (is_scanned from to limit page) tells page → length page < limit
        → AreRowsOf (is_between from to) tells page
    short_page page h short =
        same_keys (is_scanned from to limit page) (is_between from to)
        (λ k e. (and_split (is_between from to k) (nat_lt (length page) limit || reaches page k) e).0)
        (λ k e. and_both (is_between from to k) (nat_lt (length page) limit || reaches page k) e
        (or_left (nat_lt (length page) limit) (reaches page k) (lt-ltb (length page) limit short))) page h

    module _ (front : List KeyValue) (last : KeyValue)
        (h : AreRowsOf (is_scanned from to limit (front ++ last ∷ [])) tells (front ++ last ∷ [])) where
      last_value : value_in (front ++ last ∷ []) last.key ≡ Some last.value
      last_value = elim (has_or (value_in front last.key)) [
        | inl there ↦ absurd (lt_itself last.key (below_last front last h.rising last.key there))
        | inr none ↦ value_behind front (last ∷ []) last.key none ∙ own_value last []
      ]

      -- the last row lies in the range
      pub last_within : IsTrue (is_between from to last.key)
      last_within = (and_split (is_between from to last.key)
          (nat_lt (length (front ++ last ∷ [])) limit || reaches (front ++ last ∷ []) last.key)
          (h.within last.key last.value last_value)).0

      -- the rows before it are those of the range up to it
      pub front_of_page : AreRowsOf (is_between from last.key) tells front
      front_of_page = record {
        rising = rising_front front last h.rising;
        within = λ k v e. between from last.key k
            (between_both from to k (and_split (is_between from to k)
            (nat_lt (length (front ++ last ∷ [])) limit || reaches (front ++ last ∷ []) k)
            (h.within k v (value_first front (last ∷ []) k v e))).0).0
            (below_last front last h.rising k (v, e));
        each = λ k inside.
            let both = between_both from last.key k inside in
            subst (tells k) (same k both.1)
            (h.each k (and_both (is_between from to k) (nat_lt (length (front ++ last ∷ [])) limit
            || reaches (front ++ last ∷ []) k)
            (between from to k both.0 (lt_trans k last.key to both.1 (between_both from to last.key last_within).1))
            (or_right (nat_lt (length (front ++ last ∷ [])) limit) (reaches (front ++ last ∷ []) k)
            (reaches_last front last k (lt_le k last.key both.1)))));
      }
        where
          same : (k : Key) → IsTrue (key_lt k last.key) → value_in (front ++ last ∷ []) k ≡ value_in front k
          same k below = elim (has_or (value_in front k)) [
            | inl there ↦ value_first front (last ∷ []) k there.0 there.1 ∙ sym there.1
            | inr none ↦ value_behind front (last ∷ []) k none
                ∙ (none_is (value_in (last ∷ []) k) (λ v e. elim (key_test last.key k) [
                  | inl t ↦ lt_itself k (subst (λ j. IsTrue (key_lt k j)) t.1 below)
                  | inr t ↦ (let nothing : None ≡ Some v = rw t.0 at e in cc (nothing))
                ]) ∙ sym none)
          ]

  -- the rows of a range, and behind them those of the next
  module _ (low border high : Key) (up : IsTrue (key_le low border)) (on : IsTrue (key_le border high))
      (xs ys : List KeyValue) (h : AreRowsOf (is_between low border) tells xs)
      (next : AreRowsOf (is_between border high) tells ys) where
    before : (k : Key) → IsTrue (key_lt k border) → value_in (xs ++ ys) k ≡ value_in xs k
    before k below = elim (has_or (value_in xs k)) [
      | inl there ↦ value_first xs ys k there.0 there.1 ∙ sym there.1
      | inr none ↦ value_behind xs ys k none
          ∙ (none_is (value_in ys k)
          (λ v e. lt_itself k (lt_then_le k border k below (between_both border high k (next.within k v e)).0))
          ∙ sym none)
    ]

    behind : (k : Key) → IsTrue (key_le border k) → value_in (xs ++ ys) k ≡ value_in ys k
    behind k from_border =
        value_behind xs ys k
        (none_is (value_in xs k)
        (λ v e. lt_itself k (lt_then_le k border k (between_both low border k (h.within k v e)).1 from_border)))

    inside_of : (k : Key) (v : Value) → value_in (xs ++ ys) k ≡ Some v → IsTrue (is_between low high k)
    inside_of k v e = elim (cases_Bool (key_lt k border)) [
      | inl below ↦ between low high k (between_both low border k (h.within k v (sym (before k below) ∙ e))).0
          (lt_then_le k border high below on)
      | inr not_below ↦ (let both = between_both border high k
          (next.within k v (sym (behind k (not_lt k border not_below)) ∙ e)) in
          between low high k (le_trans low border k up both.0) both.1)
    ]

    pub joined : AreRowsOf (is_between low high) tells (xs ++ ys)
    joined = record {
      rising = rising_both xs ys h.rising next.rising
          (λ j k a b. lt_then_le j border k (between_both low border j (h.within j a.0 a.1)).1
          (between_both border high k (next.within k b.0 b.1)).0);
      within = inside_of;
      each = λ k inside. elim (cases_Bool (key_lt k border)) [
        | inl below ↦ subst (tells k) (sym (before k below))
            (h.each k (between low border k (between_both low high k inside).0 below))
        | inr not_below ↦ subst (tells k) (sym (behind k (not_lt k border not_below)))
            (next.each k (between border high k (not_lt k border not_below) (between_both low high k inside).1))
      ];
    }
