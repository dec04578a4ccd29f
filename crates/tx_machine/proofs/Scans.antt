-- The walk over the rows of a scan says what the scan sees.
use Rattle.std.proofs.Common.{suc, ◌≡◌, ◌≢◌, ℕ, ◌≤◌, ◌<◌, ◌==◌, ◌⊎◌, ◌↔◌, ◌&&◌, ◌||◌, inl, inr, Bool, true, false, cond, List, [], ◌∷◌, length, get_or, drop, Option, Some, None, bytes_eq, nat_lt, refl, sym, ap, subst, ◌∙◌, arith, IsTrue}
use Rattle.std.specs.declared.cmp.Ordering.{Ordering}
use Rattle.std.specs.declared.cmp.Ordering.TheVariants.{Less, Equal, Greater}
use Rattle.std.specs.declared.ops.Bound.{Bound}
use Rattle.std.specs.declared.ops.Bound.TheVariants.{Included, Excluded, Unbounded}
use Rattle.std.specs.Cmp.Lexicographic.{slice_cmp}
use Rattle.std.specs.Ordering.{nat_cmp, is_lt, is_le, is_gt, is_ge}
use Rattle.std.specs.BTreeMap as tree
use Rattle.std.specs.BTreeMap.Range.{IsFromStart, IsEntryInRange, range_contains, entries_between}
use Rattle.std.specs.BTreeMap.Comparable.{le_lt_trans}
use Rattle.std.specs.List.{All, filter}
use Rattle.std.specs.Option.{option_map, is_some}
use Rattle.std.proofs.lemmas.Cmp.{nat_list_cmp_total, tied_itself}
use Rattle.std.proofs.lemmas.List.Elements.{All-nil, All-cons, All-head, All-tail, All-same, All-weaker, All-contains}
use Rattle.std.proofs.lemmas.Map.Lookups.{exact_bytes}
use Rattle.std.proofs.lemmas.Map.Views.{range_contains-from_IsInRange, btree_map_get_iff}
use Rattle.std.proofs.lemmas.Bool.{ltb-true, lt-ltb, eqb-true}
use Rattle.std.proofs.Math.Seq.{drop-cons}
use Rattle.std.proofs.lemmas.List.{drop_all}
use Rattle.tx_types.specs.declared.key.Key.{Key}
use Rattle.tx_types.specs.declared.value.Value.{Value}
use Rattle.tx_types.specs.declared.mutation.KeyValue.{KeyValue}
use Rattle.tx_machine.specs.declared.step.ScanRead.{ScanRead}
use Rattle.tx_types.specs.Keys.{key_lt, key_le, IsRising, value_in, reaches}
use Rattle.tx_machine.specs.Keys.{covered}
use Rattle.tx_machine.specs.declared.versions.KeyHistory.{KeyHistory}
use Rattle.tx_machine.specs.Versions.{Versions, Fates, SeenIn}
use Rattle.tx_machine.specs.Shown.{Index, versions_in, SeenOf, Shows, ShowsRows}
use Rattle.tx_machine.specs.Scans.{IsKeyWithin, IsBare, IsNextRow}
use Rattle.tx_machine.proofs.Basics.{key_test, key_same, cond_true, cond_false, none_is}

-- the order of keys

abbrev pub cmp : Key → Key → Ordering
cmp j k = slice_cmp nat_cmp j k

abbrev pub Below : Key → Key → Type 0
Below j k = cmp j k ≡ Less

pub below_trans : (j k l : Key) → Below j k → Below k l → Below j l
below_trans j k l d e = nat_list_cmp_total.trans j k l d e

never_itself : (k : Key) → Below k k → ⊥
never_itself k e = cc (tied_itself nat_list_cmp_total k, e)

never_both : (j k : Key) → Below j k → Below k j → ⊥
never_both j k d e = never_itself j (below_trans j k j d e)

turned : (j k : Key) → Below j k → cmp k j ≡ Greater
turned j k e = rw (nat_list_cmp_total.antisymm k j) (rw e refl)

three : (j k : Key) → Below j k ⊎ ((j ≡ k) ⊎ Below k j)
three j k = by (cmp j k) refl
  where
    by : (o : Ordering) → cmp j k ≡ o → Below j k ⊎ ((j ≡ k) ⊎ Below k j)
    by Less e = inl e
    by Equal e = inr (inl (exact_bytes j k e))
    by Greater e = inr (inr (rw (nat_list_cmp_total.antisymm k j) (rw e refl)))

apart : (j k : Key) → Below j k → bytes_eq j k ≡ false
apart j k e = elim (key_test j k) [
  | inl t ↦ absurd (never_itself k (subst (λ (i : Key). Below i k) (t.1) e))
  | inr t ↦ t.0
]

apart_above : (j k : Key) → Below k j → bytes_eq j k ≡ false
apart_above j k e = elim (key_test j k) [
  | inl t ↦ absurd (never_itself k (subst (λ (i : Key). Below k i) (t.1) e))
  | inr t ↦ t.0
]

pub at_most : (o : Ordering) → is_gt o ≡ false → is_le o ≡ true
at_most Less e = refl
at_most Equal e = refl
at_most Greater e = absurd (cc e)

not_above : (o : Ordering) → is_le o ≡ true → is_gt o ≡ false
not_above Less e = refl
not_above Equal e = refl
not_above Greater e = absurd (cc e)

less : (o : Ordering) → is_lt o ≡ true → o ≡ Less
less Less e = refl
less Equal e = absurd (cc e)
less Greater e = absurd (cc e)

-- a lower bound lets in what lies above what it lets in
pub from_above : (from : Bound Key) (j k : Key) → IsFromStart cmp from j → Below j k → IsFromStart cmp from k
from_above (Included a) j k h e = rw (le_lt_trans nat_list_cmp_total a j k (at_most _ h) e) refl
from_above (Excluded a) j k h e = below_trans a j k h e
from_above Unbounded j k h e = tt

-- tests

pub or_left : (b c : Bool) → b ≡ true → (b || c) ≡ true
or_left b c e = rw e refl

pub or_right : (b c : Bool) → c ≡ true → (b || c) ≡ true
or_right true c e = refl
or_right false c e = e

or_second : (b c : Bool) → (b || c) ≡ true → b ≡ false → c ≡ true
or_second true c e f = absurd (cc f)
or_second false c e f = e

either : (b c : Bool) → (b || c) ≡ true → (b ≡ true) ⊎ (c ≡ true)
either true c e = inl refl
either false c e = inr e

both : (b c : Bool) → b ≡ true → c ≡ true → (b && c) ≡ true
both b c d e = rw (d, e) refl

split : (b c : Bool) → (b && c) ≡ true → (b ≡ true) × (c ≡ true)
split true c e = (refl, e)
split false c e = absurd (cc e)

-- the rows

pub own : (x : KeyValue) (xs : List KeyValue) → value_in (x ∷ xs) x.key ≡ Some x.value
own x xs = cond_true _ _ _ (key_same x.key)

pub skip : (x : KeyValue) (xs : List KeyValue) (k : Key) → Below x.key k → value_in (x ∷ xs) k ≡ value_in xs k
skip x xs k e = cond_false _ _ _ (apart x.key k e)

pub none_before : (x : KeyValue) (xs : List KeyValue) (k : Key) → Below k x.key
    → ((q : Key) (v : Value) → value_in xs q ≡ Some v → Below x.key q) → value_in (x ∷ xs) k ≡ None
none_before x xs k e h =
    cond_false _ _ _ (apart_above x.key k e) ∙ none_is (value_in xs k) (λ v is. never_both k x.key e (h k v is))

rises : (x : KeyValue) (xs : List KeyValue) → ((q : Key) (v : Value) → value_in xs q ≡ Some v → Below x.key q)
    → IsRising xs → IsRising (x ∷ xs)
rises x [] h r = tt
rises x (y ∷ ys) h r = (ap is_lt (h y.key y.value (own y ys)), r)

rising_rest : (x : KeyValue) (xs : List KeyValue) → IsRising (x ∷ xs) → IsRising xs
rising_rest x [] r = tt
rising_rest x (y ∷ ys) r = r.1

above : (x : KeyValue) (xs : List KeyValue) → IsRising (x ∷ xs) → (q : Key) (v : Value) → value_in xs q ≡ Some v
    → Below x.key q
above x [] r q v e = absurd (cc e)
above x (y ∷ ys) r q v e = elim (key_test y.key q) [
  | inl t ↦ subst (λ (i : Key). Below x.key i) (t.1) (less _ (r.0))
  | inr t ↦ below_trans x.key y.key q (less _ (r.0)) (above y ys r.1 q v (sym (cond_false _ _ _ t.0) ∙ e))
]

reaches_own : (xs : List KeyValue) (k : Key) (v : Value) → value_in xs k ≡ Some v → reaches xs k ≡ true
reaches_own [] k v e = absurd (cc e)
reaches_own (x ∷ xs) k v e = elim (key_test x.key k) [
  | inl t ↦ or_left _ _ (subst (λ (i : Key). key_le k i ≡ true) (sym t.1) (ap is_le (tied_itself nat_list_cmp_total k)))
  | inr t ↦ or_right _ _ (reaches_own xs k v (sym (cond_false _ _ _ t.0) ∙ e))
]

-- the entries of a range

filter_step : {X : Type 0} (P : X → Type 0) (b : Bool) (x : X) (ys : List X) → All P (cond b (x ∷ ys) ys)
    → (b ≡ true → P x) × All P ys
filter_step P true x ys h = (λ e. All-head P x ys h, All-tail P x ys h)
filter_step P false x ys h = (λ e. absurd (cc e), h)

all_filtered : {X : Type 0} (P : X → Type 0) (p : X → Bool) (xs : List X) → All P (filter p xs)
    → All (λ x. p x ≡ true → P x) xs
all_filtered P p [] h = All-nil (λ x. p x ≡ true → P x)
all_filtered P p (x ∷ xs) h =
    let parts = filter_step P (p x) x (filter p xs) h in
    All-cons (λ y. p y ≡ true → P y) x xs parts.0 (all_filtered P p xs parts.1)

abbrev pub ShowsNone : Fates → ℕ → Key × KeyHistory → Type 0
ShowsNone fates r e = SeenIn e.1.versions fates r None

module _ (index : Index) (fates : Fates) (from : Bound Key) (to : Key) (r : ℕ) where
  none_at : (k : Key) (o : Option KeyHistory) → tree.get cmp index k ≡ o
      → ((h : KeyHistory) → o ≡ Some h → ShowsNone fates r (k, h)) → Shows index fates k r None
  none_at k None e h = subst (λ (o : Option KeyHistory). SeenOf (versions_in o) fates r None) (sym e) refl
  none_at k (Some x) e h = subst (λ (o : Option KeyHistory). SeenOf (versions_in o) fates r None) (sym e) (h x refl)

  -- where no entry of the range shows a value, none of its keys does
  pub bare_from_entries : tree.IsOrdered cmp index
      → All (ShowsNone fates r) (entries_between cmp from (Excluded to) index.entries) → IsBare index fates from to r
  bare_from_entries ordered all k w =
      none_at k (tree.get cmp index k) refl
      (λ h e. All-contains (λ (x : Key × KeyHistory). range_contains cmp from (Excluded to) x.0 ≡ true
      → ShowsNone fates r x) index.entries (
        k,
        h,
      ) (all_filtered (ShowsNone fates r) (λ x. range_contains cmp from (Excluded to) x.0) index.entries all)
      ((btree_map_get_iff nat_list_cmp_total exact_bytes index ordered k h).0 e)
      (range_contains-from_IsInRange nat_list_cmp_total from (Excluded to) k w))

  pub entries_from_bare : (es : List (Key × KeyHistory)) → All (IsEntryInRange cmp from (Excluded to) index) es
      → IsBare index fates from to r → All (ShowsNone fates r) es
  entries_from_bare es all bare =
      All-weaker (IsEntryInRange cmp from (Excluded to) index) (ShowsNone fates r)
      (λ e h. subst (λ (o : Option KeyHistory). SeenOf (versions_in o) fates r None) (h.1) (bare e.0 h.0)) es all

-- what is left of a range in a loop

pub all_first : {X : Type 0} (P : X → Type 0) (xs ys : List X) → ys ≡ xs → All P xs ↔ All P ys
all_first P xs ys e = (λ h. All-same P ys xs e h, λ h. All-same P xs ys (sym e) h)

pub all_next : {X : Type 0} (P : X → Type 0) (xs ys zs : List X) (x : X) → (All P xs ↔ All P ys) → ys ≡ x ∷ zs → P x
    → All P xs ↔ All P zs
all_next P xs ys zs x i e p = (
  λ h. All-tail P x zs (All-same P (x ∷ zs) ys (sym e) (i.0 h)),
  λ h. i.1 (All-same P ys (x ∷ zs) e (All-cons P x zs p h)),
)

pub all_passed : {X : Type 0} (P : X → Type 0) (xs ys : List X) → (All P xs ↔ All P ys) → ys ≡ [] → All P xs
all_passed P xs ys i e = i.1 (All-same P ys [] e (All-nil P))

pub seen_none : {X : Type 0} (f : X → Value) (versions : Versions) (fates : Fates) (r : ℕ) (o : Option X)
    → SeenIn versions fates r (option_map f o) → false ≡ is_some o → SeenIn versions fates r None
seen_none f versions fates r None h e = h
seen_none f versions fates r (Some x) h e = absurd (cc e)

length_none : {X : Type 0} (xs : List X) → length xs ≡ 0 → xs ≡ []
length_none [] e = refl
length_none (x ∷ xs) e = absurd (cc e)

module _ (index : Index) (fates : Fates) (s : ScanRead) where
  -- the rows from a bound on, one after the other
  abbrev pub Walks : Bound Key → List KeyValue → Type 0
  Walks from [] = length s.rows < s.limit → IsBare index fates from s.to s.at
  Walks from (x ∷ xs) = IsNextRow index fates s from x × Walks (Excluded x.key) xs

  -- what the rows from a bound on say of the keys from it on
  record ShowsFrom (from : Bound Key) (xs : List KeyValue) : Type 0 where
    rising : IsRising xs
    within : (k : Key) (v : Value) → value_in xs k ≡ Some v → IsKeyWithin from s.to k
    each : (k : Key) → IsKeyWithin from s.to k → (length s.rows < s.limit) ⊎ (reaches xs k ≡ true)
        → Shows index fates k s.at (value_in xs k)

  as_shown : (k : Key) (o q : Option Value) → o ≡ q → Shows index fates k s.at o → Shows index fates k s.at q
  as_shown k o q e h = subst (λ (x : Option Value). Shows index fates k s.at x) e h

  past : (x : KeyValue) (xs : List KeyValue) (k : Key) → Below x.key k
      → (length s.rows < s.limit) ⊎ (reaches (x ∷ xs) k ≡ true) → (length s.rows < s.limit) ⊎ (reaches xs k ≡ true)
  past x xs k e (inl h) = inl h
  past x xs k e (inr h) = inr (or_second (key_le k x.key) (reaches xs k) h (ap is_le (turned x.key k e)))

  module _ (from : Bound Key) (x : KeyValue) (xs : List KeyValue) where
    module _ (next : IsNextRow index fates s from x) (rest : ShowsFrom (Excluded x.key) xs) where
      within_more : (k : Key) (v : Value) → value_in (x ∷ xs) k ≡ Some v → IsKeyWithin from s.to k
      within_more k v e = elim (key_test x.key k) [
        | inl t ↦ subst (λ (q : Key). IsKeyWithin from s.to q) (t.1) next.within
        | inr t ↦
            let h = rest.within k v (sym (cond_false _ _ _ t.0) ∙ e) in
            (from_above from x.key k (next.within.0) (h.0), h.1)
      ]

      each_more : (k : Key) → IsKeyWithin from s.to k → (length s.rows < s.limit) ⊎ (reaches (x ∷ xs) k ≡ true)
          → Shows index fates k s.at (value_in (x ∷ xs) k)
      each_more k w r = elim (three x.key k) [
        | inl e ↦ as_shown k _ _ (sym (skip x xs k e)) (rest.each k (e, w.1) (past x xs k e r))
        | inr (inl e) ↦ subst (λ (q : Key). Shows index fates q s.at (value_in (x ∷ xs) q)) e
            (as_shown x.key _ _ (sym (own x xs)) next.shown)
        | inr (inr e) ↦ as_shown k _ _ (sym (none_before x xs k e (λ q v is. (rest.within q v is).0)))
            (next.bare k (w.0, e))
      ]

      shows_more : ShowsFrom from (x ∷ xs)
      shows_more = record {
        rising = rises x xs (λ q v is. (rest.within q v is).0) rest.rising;
        within = within_more;
        each = each_more;
      }

    module _ (h : ShowsFrom from (x ∷ xs)) where
      first_within : IsKeyWithin from s.to x.key
      first_within = h.within x.key x.value (own x xs)

      first_bare : IsBare index fates from x.key s.at
      first_bare k w =
          as_shown k _ _ (none_before x xs k w.1 (above x xs h.rising))
          (h.each k (w.0, below_trans k x.key s.to w.1 (first_within.1)) (inr (or_left _ _ (ap is_le w.1))))

      first_row : IsNextRow index fates s from x
      first_row = record {
        within = first_within;
        bare = first_bare;
        shown = as_shown x.key _ _ (own x xs)
            (h.each x.key first_within (inr (or_left _ _ (ap is_le (tied_itself nat_list_cmp_total x.key)))));
      }

      later : (k : Key) → (length s.rows < s.limit) ⊎ (reaches xs k ≡ true)
          → (length s.rows < s.limit) ⊎ (reaches (x ∷ xs) k ≡ true)
      later k (inl e) = inl e
      later k (inr e) = inr (or_right _ _ e)

      rest_within : (k : Key) (v : Value) → value_in xs k ≡ Some v → IsKeyWithin (Excluded x.key) s.to k
      rest_within k v e =
          let up = above x xs h.rising k v e in
          (up, (h.within k v (skip x xs k up ∙ e)).1)

      rest_rows : ShowsFrom (Excluded x.key) xs
      rest_rows = record {
        rising = rising_rest x xs h.rising;
        within = rest_within;
        each = λ k w r. as_shown k _ _ (skip x xs k w.0)
            (h.each k (from_above from x.key k (first_within.0) w.0, w.1) (later k r));
      }

  walked : (from : Bound Key) (xs : List KeyValue) → Walks from xs → ShowsFrom from xs
  walked from [] w = record {
    rising = tt;
    within = λ k v e. absurd (cc e);
    each = λ k h r. elim r [ inl e ↦ w e k h | inr e ↦ absurd (cc e) ];
  }
  walked from (x ∷ xs) w = shows_more from x xs (w.0) (walked (Excluded x.key) xs (w.1))

  walks : (from : Bound Key) (xs : List KeyValue) → ShowsFrom from xs → Walks from xs
  walks from [] h = λ e k w. h.each k w (inl e)
  walks from (x ∷ xs) h = (first_row from x xs h, walks (Excluded x.key) xs (rest_rows from x xs h))

  pub covered_from : (k : Key) → IsKeyWithin (Included s.from) s.to k
      → (length s.rows < s.limit) ⊎ (reaches s.rows k ≡ true) → covered s k ≡ true
  covered_from k w r =
      both _ _ (both _ _ (at_most _ (w.0)) (ap is_lt (w.1)))
      (elim r [ inl e ↦ or_left _ _ (lt-ltb (length s.rows) s.limit e) | inr e ↦ or_right _ _ e ])

  from_covered : (k : Key) → covered s k ≡ true
      → IsKeyWithin (Included s.from) s.to k × ((length s.rows < s.limit) ⊎ (reaches s.rows k ≡ true))
  from_covered k e =
      let p = split (key_le s.from k && key_lt k s.to) (nat_lt (length s.rows) s.limit || reaches s.rows k) e in
      let q = split (key_le s.from k) (key_lt k s.to) (p.0) in (
        (not_above _ (q.0), less _ (q.1)),
        elim (either (nat_lt (length s.rows) s.limit) (reaches s.rows k) (p.1)) [
          | inl t ↦
              inl (ltb-true (length s.rows) s.limit t)
          | inr t ↦ inr t
        ],
      )

  rows_shown : length s.rows ≤ s.limit → ShowsFrom (Included s.from) s.rows → ShowsRows index fates s
  rows_shown upto h = record {
    rising = h.rising;
    within = λ k v e. covered_from k (h.within k v e) (inr (reaches_own s.rows k v e));
    upto = upto;
    each = λ k e. let w = from_covered k e in h.each k (w.0) (w.1);
  }

  shown_rows : ShowsRows index fates s → ShowsFrom (Included s.from) s.rows
  shown_rows h = record {
    rising = h.rising;
    within = λ k v e. (from_covered k (h.within k v e)).0;
    each = λ k w r. h.each k (covered_from k w r);
  }

  -- the walk from the start of the range says what the scan sees
  pub walk_says : length s.rows ≤ s.limit → Walks (Included s.from) s.rows ↔ ShowsRows index fates s
  walk_says upto = (
    λ w. rows_shown upto (walked (Included s.from) s.rows w),
    λ h. walks (Included s.from) s.rows (shown_rows h),
  )

  -- a range with no key has no rows
  module _ (back : is_ge (cmp s.from s.to) ≡ true) where
    never_covered : (k : Key) → covered s k ≡ true → ⊥
    never_covered k e =
        let w = (from_covered k e).0 in
        cc (back, ap is_ge (le_lt_trans nat_list_cmp_total s.from k s.to (at_most _ (w.0)) (w.1)))

    none_shown : s.rows ≡ [] → ShowsRows index fates s
    none_shown e = record {
      rising = subst IsRising (sym e) tt;
      within = λ k v is. absurd (cc (ap (λ (xs : List KeyValue). value_in xs k) e, is));
      upto = omega (arith, ap length e);
      each = λ k is. absurd (never_covered k is);
    }

    no_more : (xs : List KeyValue) → s.rows ≡ xs → ShowsRows index fates s → xs ≡ []
    no_more [] e h = refl
    no_more (x ∷ xs) e h =
        absurd (never_covered x.key
        (h.within x.key x.value (ap (λ (ys : List KeyValue). value_in ys x.key) e ∙ own x xs)))

    pub no_rows : (rows : List KeyValue) → rows ≡ s.rows → IsTrue (length rows == 0) ↔ ShowsRows index fates s
    no_rows rows is = (
      λ e. none_shown (sym is ∙ length_none rows (eqb-true (length rows) 0 e)),
      λ h. ap (λ (xs : List KeyValue). length xs == 0) (is ∙ no_more s.rows refl h),
    )

  module _ (rows : List KeyValue) (is : rows ≡ s.rows) (i : ℕ) (from : Bound Key)
      (so_far : Walks (Included s.from) s.rows ↔ Walks from (drop i s.rows)) (upto : length rows ≤ s.limit) where
    -- a scan that sees its rows sees the next one
    pub next_seen : (x : KeyValue) → i < length rows → x ≡ get_or rows i x → ShowsRows index fates s
        → IsNextRow index fates s from x
    next_seen x lt e h =
        let lt_rows : i < length s.rows = omega (arith, ap length is) in
        let at : drop i s.rows ≡ get_or s.rows i x ∷ drop (suc i) s.rows = drop-cons s.rows i x lt_rows in
        let item : get_or s.rows i x ≡ x = sym (e ∙ ap (λ (xs : List KeyValue). get_or xs i x) is) in
        let w : Walks from (get_or s.rows i x ∷ drop (suc i) s.rows) =
        subst (λ (xs : List KeyValue). Walks from xs) at
        (so_far.0 ((walk_says (omega (arith, ap length is))).1 h)) in
        subst (λ (y : KeyValue). IsNextRow index fates s from y) item (w.0)

    -- behind the last row
    pub end_seen : length rows ≤ i
        → (length s.rows < s.limit → IsBare index fates from s.to s.at) ↔ ShowsRows index fates s
    end_seen le =
        let none : drop i s.rows ≡ [] = drop_all i s.rows (omega (arith, ap length is)) in
        let says = walk_says (omega (arith, ap length is)) in (
          λ b. says.0 (so_far.1 (subst (λ (xs : List KeyValue). Walks from xs) (sym none) b)),
          λ h. subst (λ (xs : List KeyValue). Walks from xs) none (so_far.0 (says.1 h)),
        )

    pub full_seen : length rows ≤ i → length rows ≡ s.limit → ShowsRows index fates s
    full_seen le full = (end_seen le).0 (λ lt. absurd (omega (arith, ap length is)))

    pub open_seen : length rows ≤ i → length rows ≢ s.limit → (b : Bool)
        → (IsTrue b ↔ IsBare index fates from s.to s.at) → IsTrue b ↔ ShowsRows index fates s
    open_seen le short b bare =
        (λ t. (end_seen le).0 (λ lt. bare.0 t), λ h. bare.1 ((end_seen le).1 h (omega (arith, ap length is))))
