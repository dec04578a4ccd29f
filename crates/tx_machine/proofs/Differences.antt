-- The walk over the rows of a scan finds the first key that a read sees otherwise.
use Rattle.std.proofs.Common.{suc, ◌≡◌, ◌≢◌, ℕ, ◌+◌, ◌≤◌, ◌<◌, inl, inr, true, false, List, [], ◌∷◌, length, get_or, drop, Option, Some, None, refl, sym, ap, subst, ◌∙◌, arith, add-one, bytes_eq, IfSome, IfNone}
use Rattle.std.specs.declared.ops.Bound.{Bound}
use Rattle.std.specs.declared.ops.Bound.TheVariants.{Included, Excluded}
use Rattle.std.specs.Ordering.{is_le, is_ge}
use Rattle.std.specs.BTreeMap.Comparable.{le_lt_trans}
use Rattle.std.specs.BTreeMap.Range.{IsFromStart}
use Rattle.std.proofs.lemmas.Cmp.{nat_list_cmp_total, tied_itself}
use Rattle.std.proofs.Math.Seq.{drop-cons}
use Rattle.std.proofs.lemmas.List.{drop_all}
use Rattle.tx_types.specs.declared.key.Key.{Key}
use Rattle.tx_types.specs.declared.value.Value.{Value}
use Rattle.tx_types.specs.declared.mutation.KeyValue.{KeyValue}
use Rattle.tx_types.specs.Keys.{value_in, reaches}
use Rattle.tx_machine.specs.declared.step.ScanRead.{ScanRead}
use Rattle.tx_machine.specs.Versions.{Fates}
use Rattle.tx_machine.specs.Shown.{Index, Shows, ShowsRows}
use Rattle.tx_machine.specs.Scans.{IsKeyWithin, IsBare, DiffersBefore, Differs}
use Rattle.tx_machine.specs.Why.{AreInPlace, IsMisplaced}
use Rattle.tx_machine.proofs.Basics.{key_test, cond_true, cond_false}
use Rattle.tx_machine.proofs.Scans.{cmp, Below, at_most, below_trans, from_above, or_left, or_right, own, skip, none_before, covered_from, Walks, walk_says}

-- the rows of a list from a place on
pub rows_at : (rows : List KeyValue) (i : ℕ) (x : KeyValue) → i < length rows → x ≡ get_or rows i x
    → drop i rows ≡ x ∷ drop (suc i) rows
rows_at rows i x lt e = drop-cons rows i x lt ∙ ap (λ (y : KeyValue). y ∷ drop (suc i) rows) (sym e)

-- a key's value among rows from a place on
pub value_here : (rows : List KeyValue) (i : ℕ) (x : KeyValue) (k : Key) → i < length rows → x ≡ get_or rows i x
    → value_in rows k ≡ value_in (drop i rows) k → bytes_eq x.key k ≡ true → value_in rows k ≡ Some x.value
value_here rows i x k lt e was same =
    was ∙ ap (λ (xs : List KeyValue). value_in xs k) (rows_at rows i x lt e) ∙ cond_true _ _ _ same

pub value_next : (rows : List KeyValue) (i : ℕ) (x : KeyValue) (k : Key) → i < length rows → x ≡ get_or rows i x
    → value_in rows k ≡ value_in (drop i rows) k → bytes_eq x.key k ≡ false
    → value_in rows k ≡ value_in (drop (i + 1) rows) k
value_next rows i x k lt e was other =
    was ∙ ap (λ (xs : List KeyValue). value_in xs k) (rows_at rows i x lt e) ∙ cond_false _ _ _ other
    ∙ ap (λ (n : ℕ). value_in (drop n rows) k) (sym (add-one i))

pub value_none : (rows : List KeyValue) (i : ℕ) (k : Key) → length rows ≤ i → value_in rows k ≡ value_in (drop i rows) k
    → value_in rows k ≡ None
value_none rows i k le was = was ∙ ap (λ (xs : List KeyValue). value_in xs k) (drop_all i rows le)

-- a range that is none has no rows in place
pub none_placed : (from to : Key) (rows : List KeyValue) → is_ge (cmp from to) ≡ true
    → AreInPlace (Included from) to rows → rows ≡ []
none_placed from to [] back p = refl
none_placed from to (x ∷ xs) back p =
    absurd (cc (back, ap is_ge (le_lt_trans nat_list_cmp_total from x.key to (at_most _ p.0.0) p.0.1)))

-- what lies in rows that are in place lies above their bound
placed_above : (from : Bound Key) (to : Key) (xs : List KeyValue) → AreInPlace from to xs → (q : Key) (v : Value)
    → value_in xs q ≡ Some v → IsFromStart cmp from q
placed_above from to [] p q v e = absurd (cc e)
placed_above from to (x ∷ xs) p q v e = elim (key_test x.key q) [
  | inl t ↦ subst (λ (k : Key). IsFromStart cmp from k) t.1 p.0.0
  | inr t ↦ from_above from x.key q p.0.0 (placed_above (Excluded x.key) to xs p.1 q v (sym (cond_false _ _ _ t.0) ∙ e))
]

-- rows in place have none that is not
pub not_misplaced : (from : Bound Key) (to : Key) (xs : List KeyValue) (k : Key) → IsMisplaced from to xs k
    → AreInPlace from to xs → ⊥
not_misplaced from to [] k m p = m
not_misplaced from to (x ∷ xs) k (inl (e, out)) p = out (subst (λ (q : Key). IsKeyWithin from to q) e p.0)
not_misplaced from to (x ∷ xs) k (inr m) p = not_misplaced (Excluded x.key) to xs k m p.1

module _ (index : Index) (fates : Fates) (s : ScanRead) where
  walks_placed : (from : Bound Key) (xs : List KeyValue) → Walks index fates s from xs → AreInPlace from s.to xs
  walks_placed from [] w = tt
  walks_placed from (x ∷ xs) w = (w.0.within, walks_placed (Excluded x.key) xs w.1)

  -- the rows that a scan sees are in place
  pub shown_placed : ShowsRows index fates s → AreInPlace (Included s.from) s.to s.rows
  shown_placed h = walks_placed (Included s.from) s.rows ((walk_says index fates s h.upto).1 h)

  -- what the walk knows where these rows are left, from a bound on
  pub record Ahead (from : Bound Key) (xs : List KeyValue) : Type 0 where
    pub placed : AreInPlace from s.to xs
    pub ends : IsFromStart cmp from s.to
    pub wider : (k : Key) → IsFromStart cmp from k → IsFromStart cmp (Included s.from) k
    pub rest : (k : Key) → IsFromStart cmp from k → value_in s.rows k ≡ value_in xs k
    pub reach : (k : Key) → reaches xs k ≡ true → reaches s.rows k ≡ true
    pub walked : Walks index fates s from xs → Walks index fates s (Included s.from) s.rows

  pub ahead : AreInPlace (Included s.from) s.to s.rows → IsFromStart cmp (Included s.from) s.to
      → Ahead (Included s.from) s.rows
  ahead placed ends = record {
    placed = placed;
    ends = ends;
    wider = λ k h. h;
    rest = λ k h. refl;
    reach =
        λ k e. e;
    walked = λ w. w;
  }

  module _ (from : Bound Key) (x : KeyValue) (xs : List KeyValue) (a : Ahead from (x ∷ xs)) where
    pub first_from : IsFromStart cmp from x.key
    first_from = a.placed.0.0

    up : (k : Key) → Below x.key k → IsFromStart cmp from k
    up k h = from_above from x.key k a.placed.0.0 h

    pub further : IsBare index fates from x.key s.at × Shows index fates x.key s.at (Some x.value)
        → Ahead (Excluded x.key) xs
    further (bare, shown) = record {
      placed = a.placed.1;
      ends = a.placed.0.1;
      wider = λ k h. a.wider k (up k h);
      rest = λ k h. a.rest k (up k h) ∙ skip x xs k h;
      reach = λ k e. a.reach k (or_right _ _ e);
      walked = λ w. a.walked (record { within = a.placed.0; bare = bare; shown = shown }, w);
    }

    shows_at : (k : Key) (o : Option Value) → value_in s.rows k ≡ o → (Shows index fates k s.at o → ⊥)
        → Shows index fates k s.at (value_in s.rows k) → ⊥
    shows_at k o e never h = never (subst (λ (q : Option Value). Shows index fates k s.at q) e h)

    pub differs_here : (k : Key) → DiffersBefore index fates s.at from x k → Differs index fates s k
    differs_here k (inl (w, never)) = (
      covered_from index fates s k (
        a.wider k w.0,
        below_trans k x.key s.to w.1 a.placed.0.1,
      ) (inr (a.reach k (or_left _ _ (ap is_le w.1)))),
      shows_at k None (a.rest k w.0
          ∙ none_before x xs k w.1 (λ q v e. placed_above (Excluded x.key) s.to xs a.placed.1 q v e)) never,
    )
    differs_here k (inr (e, never)) =
        let at : Differs index fates s x.key = (
          covered_from index fates s x.key (
            a.wider x.key a.placed.0.0,
            a.placed.0.1,
          ) (inr (a.reach x.key (or_left _ _ (ap is_le (tied_itself nat_list_cmp_total x.key))))),
          shows_at x.key (Some x.value) (a.rest x.key a.placed.0.0
              ∙ own x xs) (subst (λ (q : Key). Shows index fates q s.at (Some x.value) → ⊥) e never),
        ) in
        subst (λ (q : Key). Differs index fates s q) (sym e) at

  module _ (from : Bound Key) (a : Ahead from []) (upto : length s.rows ≤ s.limit) where
    pub differs_behind : length s.rows ≢ s.limit → (k : Key)
        → IsKeyWithin from s.to k × (Shows index fates k s.at None → ⊥) → Differs index fates s k
    differs_behind short k (w, never) = (
      covered_from index fates s k (a.wider k w.0, w.1) (inl (omega (arith, upto, short))),
      λ h. never (subst (λ (q : Option Value). Shows index fates k s.at q) (a.rest k w.0) h),
    )

    pub nothing_differs : (length s.rows < s.limit → IsBare index fates from s.to s.at) → ShowsRows index fates s
    nothing_differs bare = (walk_says index fates s upto).0 (a.walked bare)

-- ---- the loops, which go over a slice of the rows

module _ (s : ScanRead) (rows : List KeyValue) (is : rows ≡ s.rows) (i : ℕ) where
  row_at : (x : KeyValue) → i < length rows → x ≡ get_or rows i x → drop i s.rows ≡ x ∷ drop (suc i) s.rows
  row_at x lt e = subst (λ (ys : List KeyValue). drop i ys ≡ x ∷ drop (suc i) ys) is (rows_at rows i x lt e)

  row_none : length rows ≤ i → drop i s.rows ≡ []
  row_none le = drop_all i s.rows (omega (arith, le, ap length is))

  module _ (from : Bound Key)
      (inv : ((k : Key) → IsMisplaced from s.to (drop i s.rows) k → IsMisplaced (Included s.from) s.to s.rows k)
      × (AreInPlace from s.to (drop i s.rows) → AreInPlace (Included s.from) s.to s.rows)) where
    pub place_next : (x : KeyValue) → i < length rows → x ≡ get_or rows i x → IsKeyWithin from s.to x.key
        → ((k : Key) → IsMisplaced (Excluded x.key) s.to (drop (i + 1) s.rows) k
        → IsMisplaced (Included s.from) s.to s.rows k)
        × (AreInPlace (Excluded x.key) s.to (drop (i + 1) s.rows) → AreInPlace (Included s.from) s.to s.rows)
    place_next x lt e within =
        let at = row_at x lt e in (
          λ k m. inv.0 k (subst (λ (ys : List KeyValue). IsMisplaced from s.to ys k) (sym at)
              (inr (subst (λ (n : ℕ). IsMisplaced (Excluded x.key) s.to (drop n s.rows) k) (add-one i) m))),
          λ p. inv.1 (subst (λ (ys : List KeyValue). AreInPlace from s.to ys) (sym at) (
            within,
            subst (λ (n : ℕ). AreInPlace (Excluded x.key) s.to (drop n s.rows)) (add-one i) p,
          )),
        )

    pub place_out : (x : KeyValue) → i < length rows → x ≡ get_or rows i x → (IsKeyWithin from s.to x.key → ⊥)
        → IsMisplaced (Included s.from) s.to s.rows x.key
    place_out x lt e out =
        inv.0 x.key (subst (λ (ys : List KeyValue). IsMisplaced from s.to ys x.key) (sym (row_at x lt e))
        (inl (refl, out)))

    pub place_end : length rows ≤ i → AreInPlace (Included s.from) s.to s.rows
    place_end le = inv.1 (subst (λ (ys : List KeyValue). AreInPlace from s.to ys) (sym (row_none le)) tt)

  module _ (index : Index) (fates : Fates) (from : Bound Key) (a : Ahead index fates s from (drop i s.rows)) where
    module _ (x : KeyValue) (lt : i < length rows) (e : x ≡ get_or rows i x) where
      here : Ahead index fates s from (x ∷ drop (suc i) s.rows)
      here = subst (λ (ys : List KeyValue). Ahead index fates s from ys) (row_at x lt e) a

      pub here_from : IsFromStart cmp from x.key
      here_from = first_from index fates s from x (drop (suc i) s.rows) here

      pub here_differs : (k : Key) → DiffersBefore index fates s.at from x k → Differs index fates s k
      here_differs k d = differs_here index fates s from x (drop (suc i) s.rows) here k d

      pub here_next : IsBare index fates from x.key s.at × Shows index fates x.key s.at (Some x.value)
          → Ahead index fates s (Excluded x.key) (drop (i + 1) s.rows)
      here_next h = subst (λ (n : ℕ). Ahead index fates s (Excluded x.key) (drop n s.rows)) (sym (add-one i))
          (further index fates s from x (drop (suc i) s.rows) here h)

    module _ (le : length rows ≤ i) (upto : length s.rows ≤ s.limit) where
      behind : Ahead index fates s from []
      behind = subst (λ (ys : List KeyValue). Ahead index fates s from ys) (row_none le) a

      pub behind_differs : length rows ≢ s.limit → (k : Key)
          → IsKeyWithin from s.to k × (Shows index fates k s.at None → ⊥) → Differs index fates s k
      behind_differs short k h = differs_behind index fates s from behind upto (λ full. short (ap length is ∙ full)) k h

      pub behind_none : (length rows ≢ s.limit → IsBare index fates from s.to s.at) → ShowsRows index fates s
      behind_none bare = nothing_differs index fates s from behind upto
          (λ lt. bare (λ full. absurd (omega (arith, lt, ap length is, full))))

pub if_some : {X : Type 0} {P Q : X → Type 0} (o : Option X) → ((x : X) → P x → Q x) → IfSome o P → IfSome o Q
if_some None f h = tt
if_some (Some x) f h = f x h

pub if_none : {X : Type 0} {P Q : Type 0} (o : Option X) → (P → Q) → IfNone o P → IfNone o Q
if_none None f h = f h
if_none (Some x) f h = tt
