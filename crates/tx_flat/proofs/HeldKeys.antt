-- The keys of which flat maps hold something, in order, and the rows of a walk over them.
use Rattle.std.proofs.Common.{◌≡◌, ◌≢◌, ◌⊎◌, inl, inr, ℕ, Bool, true, false, cond, List, [], ◌∷◌, ◌++◌, Option, Some, None, bytes_eq, refl, sym, ap, subst, ◌∙◌}
use Rattle.std.specs.Prelude.{IsTrue, option_map}
use Rattle.std.specs.List.{filter}
use Rattle.std.specs.Map.{keys_of, lookup}
use Rattle.std.specs.BTreeMap as tree
use Rattle.std.specs.Ordering.{nat_cmp, is_eq}
use Rattle.std.specs.Cmp.Lexicographic.{slice_cmp}
use Rattle.std.proofs.lemmas.Bool.{cases_Bool}
use Rattle.std.proofs.lemmas.Cmp.{tied_itself, nat_list_cmp_total}
use Rattle.std.proofs.lemmas.Map.Lookups.{exact_bytes}
use Rattle.tx_types.specs.declared.key.Key.{Key}
use Rattle.tx_types.specs.declared.lock.LockRec.{LockRec}
use Rattle.tx_types.specs.declared.write.WriteRec.{WriteRec}
use Rattle.tx_types.specs.Keys.{key_lt, key_le}
use Rattle.tx_plan.specs.Cells.{no_cells}
use Rattle.tx_plan.specs.Walks.{AreInOrder, KeysPass, cells_by, IsWalk}
use Rattle.tx_plan.proofs.KeyOrder.{same_key, key_same, lt_trans, lt_itself, lt_le, le_itself, le_cases, le_lt, lt_back, not_lt}
use Rattle.tx_flat.specs.declared.FlatCells.{FlatCells}
use Rattle.tx_cells.specs.Contents.{OnKey, cells_in, lock_of, write_of}
use Rattle.tx_flat.specs.Flats.{flat_content, put_key, in_order, fronts_of, held_keys, rows_on, rows_from}
use Rattle.tx_flat.specs.NextKeys.{IsHeld, FirstOf}
use Rattle.tx_spelling.specs.Spelt.{version_cmp, exact_versions}
use Rattle.tx_cells.proofs.CellsAfter.{cells_same}
use Rattle.tx_flat.proofs.KeptEntries.{tied}
use Rattle.tx_flat.proofs.Sieves.{find_first}

-- ---- keys in order

abbrev pub In : Key → List Key → Type 0
In k [] = ⊥
In k (x ∷ xs) = (x ≡ k) ⊎ In k xs

abbrev pub AreAbove : Key → List Key → Type 0
AreAbove k [] = Unit {0}
AreAbove k (x ∷ xs) = IsTrue (key_lt k x) × AreAbove k xs

abbrev pub Rise : List Key → Type 0
Rise [] = Unit {0}
Rise (k ∷ ks) = AreAbove k ks × Rise ks

above_on : (j k : Key) (ks : List Key) → IsTrue (key_lt j k) → AreAbove k ks → AreAbove j ks
above_on j k [] lt a = tt
above_on j k (x ∷ xs) lt a = (lt_trans j k x lt a.0, above_on j k xs lt a.1)

pub above_in : (k j : Key) (ks : List Key) → AreAbove k ks → In j ks → IsTrue (key_lt k j)
above_in k j [] a i = absurd i
above_in k j (x ∷ xs) a (inl e) = subst (λ (y : Key). IsTrue (key_lt k y)) e a.0
above_in k j (x ∷ xs) a (inr i) = above_in k j xs a.1 i

-- a key is put before the first, is the first, or comes later
put_first : (k x : Key) (xs : List Key) → key_lt k x ≡ true → put_key k (x ∷ xs) ≡ k ∷ x ∷ xs
put_first k x xs e = ap (λ b. cond b (k ∷ x ∷ xs) (cond (bytes_eq x k) (x ∷ xs) (x ∷ put_key k xs))) e

put_same : (k x : Key) (xs : List Key) → key_lt k x ≡ false → bytes_eq x k ≡ true → put_key k (x ∷ xs) ≡ x ∷ xs
put_same k x xs e f =
    ap (λ b. cond b (k ∷ x ∷ xs) (cond (bytes_eq x k) (x ∷ xs) (x ∷ put_key k xs))) e
    ∙ ap (λ b. cond b (x ∷ xs) (x ∷ put_key k xs)) f

put_later : (k x : Key) (xs : List Key) → key_lt k x ≡ false → bytes_eq x k ≡ false
    → put_key k (x ∷ xs) ≡ x ∷ put_key k xs
put_later k x xs e f =
    ap (λ b. cond b (k ∷ x ∷ xs) (cond (bytes_eq x k) (x ∷ xs) (x ∷ put_key k xs))) e
    ∙ ap (λ b. cond b (x ∷ xs) (x ∷ put_key k xs)) f

-- what holds of each of the three
by_put : (P : List Key → Type 0) (k x : Key) (xs : List Key) → (key_lt k x ≡ true → P (k ∷ x ∷ xs))
    → (x ≡ k → P (x ∷ xs)) → (key_lt k x ≡ false → bytes_eq x k ≡ false → P (x ∷ put_key k xs)) → P (put_key k (x ∷ xs))
by_put P k x xs first same later = elim (cases_Bool (key_lt k x)) [
  | inl e ↦ subst P (sym (put_first k x xs e)) (first e)
  | inr e ↦ elim (cases_Bool (bytes_eq x k)) [
    | inl f ↦ subst P (sym (put_same k x xs e f)) (same (same_key x k f))
    | inr f ↦ subst P (sym (put_later k x xs e f)) (later e f)
  ]
]

put_above : (j k : Key) (ks : List Key) → IsTrue (key_lt j k) → AreAbove j ks → AreAbove j (put_key k ks)
put_above j k [] lt a = (lt, tt)
put_above j k (x ∷ xs) lt a = by_put (AreAbove j) k x xs (λ e. (lt, a)) (λ e. a) (λ e f. (a.0, put_above j k xs lt a.1))

-- a key that is not below another and is not it is above it
above_it : (k x : Key) → key_lt k x ≡ false → bytes_eq x k ≡ false → IsTrue (key_lt x k)
above_it k x e f = elim (le_cases x k (not_lt k x e)) [
  | inl lt ↦ lt
  | inr same ↦ (let yes = ap (bytes_eq x) (sym same) ∙ key_same x in absurd (cc (f, yes)))
]

put_rises : (k : Key) (ks : List Key) → Rise ks → Rise (put_key k ks)
put_rises k [] r = (tt, tt)
put_rises k (x ∷ xs) r =
    by_put Rise k x xs (λ e. ((e, above_on k x xs e r.0), r)) (λ e. r)
    (λ e f. (put_above x k xs (above_it k x e f) r.0, put_rises k xs r.1))

pub order_rises : (ks : List Key) → Rise (in_order ks)
order_rises [] = tt
order_rises (k ∷ ks) = put_rises k (in_order ks) (order_rises ks)

put_in : (k : Key) (ks : List Key) → In k (put_key k ks)
put_in k [] = inl refl
put_in k (x ∷ xs) = by_put (In k) k x xs (λ e. inl refl) (λ e. inl e) (λ e f. inr (put_in k xs))

put_others : (j k : Key) (ks : List Key) → In j ks → In j (put_key k ks)
put_others j k [] i = absurd i
put_others j k (x ∷ xs) i =
    by_put (In j) k x xs (λ e. inr i) (λ e. i)
    (λ e f. elim i [ inl here ↦ inl here | inr there ↦ inr (put_others j k xs there) ])

put_only : (j k : Key) (ks : List Key) → In j (put_key k ks) → (k ≡ j) ⊎ In j ks
put_only j k [] i = elim i [ inl e ↦ inl e | inr no_more ↦ absurd no_more ]
put_only j k (x ∷ xs) i = by_put (λ ys. In j ys → (k ≡ j) ⊎ In j (x ∷ xs)) k x xs (λ e h. h) (λ e h. inr h)
    (λ e f h. elim h [
      | inl here ↦ inr (inl here)
      | inr there ↦ elim (put_only j k xs there) [ inl same ↦ inl same | inr old ↦ inr (inr old) ]
    ]) i

pub order_in : (j : Key) (ks : List Key) → In j ks → In j (in_order ks)
order_in j [] i = absurd i
order_in j (k ∷ ks) (inl e) = subst (λ (x : Key). In x (put_key k (in_order ks))) e (put_in k (in_order ks))
order_in j (k ∷ ks) (inr i) = put_others j k (in_order ks) (order_in j ks i)

pub order_only : (j : Key) (ks : List Key) → In j (in_order ks) → In j ks
order_only j [] i = absurd i
order_only j (k ∷ ks) i =
    elim (put_only j k (in_order ks) i) [ inl e ↦ inl e | inr there ↦ inr (order_only j ks there) ]

in_left : (j : Key) (xs ys : List Key) → In j xs → In j (xs ++ ys)
in_left j [] ys i = absurd i
in_left j (x ∷ xs) ys (inl e) = inl e
in_left j (x ∷ xs) ys (inr i) = inr (in_left j xs ys i)

in_right : (j : Key) (xs ys : List Key) → In j ys → In j (xs ++ ys)
in_right j [] ys i = i
in_right j (x ∷ xs) ys i = inr (in_right j xs ys i)

in_either : (j : Key) (xs ys : List Key) → In j (xs ++ ys) → In j xs ⊎ In j ys
in_either j [] ys i = inr i
in_either j (x ∷ xs) ys (inl e) = inl (inl e)
in_either j (x ∷ xs) ys (inr i) = elim (in_either j xs ys i) [ inl a ↦ inl (inr a) | inr b ↦ inr b ]

-- ---- the keys above one, from the next on

filter_all : (p : Key → Bool) (ks : List Key) → ((j : Key) → In j ks → p j ≡ true) → filter p ks ≡ ks
filter_all p [] all = refl
filter_all p (k ∷ ks) all =
    ap (λ b. cond b (k ∷ filter p ks) (filter p ks)) (all k (inl refl))
    ∙ ap (λ (xs : List Key). k ∷ xs) (filter_all p ks (λ j i. all j (inr i)))

filter_none : (p : Key → Bool) (ks : List Key) → ((j : Key) → In j ks → p j ≡ false) → filter p ks ≡ []
filter_none p [] none = refl
filter_none p (k ∷ ks) none =
    ap (λ b. cond b (k ∷ filter p ks) (filter p ks)) (none k (inl refl)) ∙ filter_none p ks (λ j i. none j (inr i))

not_above : (k j : Key) → IsTrue (key_le j k) → key_lt k j ≡ false
not_above k j le = elim (cases_Bool (key_lt k j)) [
  | inl e ↦ elim (le_cases j k le) [
    | inl lt ↦ absurd (lt_back k j e lt)
    | inr same ↦ absurd (lt_itself k (subst (λ (y : Key). IsTrue (key_lt k y)) same e))
  ]
  | inr e ↦ e
]

-- the next key, and those above it
pub next_above : (k next : Key) (ks : List Key) → Rise ks → In next ks → IsTrue (key_lt k next)
    → ((j : Key) → In j ks → IsTrue (key_lt k j) → IsTrue (key_le next j))
    → filter (key_lt k) ks ≡ next ∷ filter (key_lt next) ks
next_above k next [] r i lt least = absurd i
next_above k next (x ∷ xs) r (inl e) lt least =
    ap (λ b. cond b (x ∷ filter (key_lt k) xs) (filter (key_lt k) xs)) here
    ∙ ap (λ (ys : List Key). x ∷ ys) (filter_all (key_lt k) xs (λ j i. lt_trans k x j here (above_in x j xs r.0 i))
    ∙ sym (filter_all (key_lt next) xs (λ j i. subst (λ (y : Key). IsTrue (key_lt y j)) e (above_in x j xs r.0 i))))
    ∙ ap (λ (y : Key). y ∷ filter (key_lt next) xs) e
    ∙ ap (λ (ys : List Key). next
    ∷ ys) (sym (ap (λ b. cond b (x ∷ filter (key_lt next) xs) (filter (key_lt next) xs))
    (not_above next x (subst (λ (y : Key). IsTrue (key_le x y)) e (le_itself x)))))
  where
    here : key_lt k x ≡ true
    here = subst (λ (y : Key). IsTrue (key_lt k y)) (sym e) lt
next_above k next (x ∷ xs) r (inr i) lt least =
    ap (λ b. cond b (x ∷ filter (key_lt k) xs) (filter (key_lt k) xs)) low
    ∙ next_above k next xs r.1 i lt (λ j there up. least j (inr there) up)
    ∙ ap (λ (ys : List Key). next
    ∷ ys) (sym (ap (λ b. cond b (x ∷ filter (key_lt next) xs) (filter (key_lt next) xs))
    (not_above next x (lt_le x next (above_in x next xs r.0 i)))))
  where
    low : key_lt k x ≡ false
    low = elim (cases_Bool (key_lt k x)) [
      | inl up ↦ (let upto = least x (inl refl) up in let over = above_in x next xs r.0 i in
          elim (le_cases next x upto) [
            | inl back ↦ absurd (lt_back x next over back)
            | inr same ↦ absurd (lt_itself x (subst (λ (y : Key). IsTrue (key_lt x y)) same over))
          ])
      | inr e ↦ e
    ]

pub none_above : (k : Key) (ks : List Key) → ((j : Key) → In j ks → IsTrue (key_lt k j) → ⊥) → filter (key_lt k) ks ≡ []
none_above k ks none =
    filter_none (key_lt k) ks (λ j i. elim (cases_Bool (key_lt k j)) [ inl up ↦ absurd (none j i up) | inr e ↦ e ])

-- ---- held keys

abbrev pub Locks : Type 0
Locks = List (Key × LockRec)

abbrev pub Writes : Type 0
Writes = List ((List ℕ × ℕ) × WriteRec)

abbrev pub lock_at : Key → Locks → Option LockRec
lock_at k es = lookup (tree.is_at (slice_cmp nat_cmp k)) es

abbrev pub write_at : List ℕ × ℕ → Writes → Option WriteRec
write_at v es = lookup (tree.is_at (version_cmp v)) es

pub lock_in : (k : Key) (es : Locks) → lock_at k es ≢ None → In k (keys_of es)
lock_in k [] n = absurd (n refl)
lock_in k (e ∷ es) n = elim (cases_Bool (is_eq (slice_cmp nat_cmp k e.0))) [
  | inl here ↦ inl (sym (exact_bytes k e.0 (tied (slice_cmp nat_cmp k e.0) here)))
  | inr other ↦ inr (lock_in k es (λ none. n (ap (λ b. cond b (Some e.1) (lock_at k es)) other ∙ none)))
]

pub in_lock : (k : Key) (es : Locks) → In k (keys_of es) → lock_at k es ≢ None
in_lock k [] i none = absurd i
in_lock k (e ∷ es) i none = elim (cases_Bool (is_eq (slice_cmp nat_cmp k e.0))) [
  | inl here ↦ (let some = ap (λ b. cond b (Some e.1) (lock_at k es)) here in cc (some, none))
  | inr other ↦ elim i [
    | inl same ↦ (let yes : is_eq (slice_cmp nat_cmp k e.0) ≡ true =
        ap (λ (j : Key). is_eq (slice_cmp nat_cmp k j)) same ∙ ap is_eq (tied_itself nat_list_cmp_total k) in
        cc (yes, other))
    | inr there ↦ in_lock k es there (sym (ap (λ b. cond b (Some e.1) (lock_at k es)) other) ∙ none)
  ]
]

pub write_in : (k : Key) (q : ℕ) (es : Writes) → write_at (k, q) es ≢ None → In k (fronts_of es)
write_in k q [] n = absurd (n refl)
write_in k q (e ∷ es) n = elim (cases_Bool (is_eq (version_cmp (k, q) e.0))) [
  | inl here ↦ inl (sym (ap (λ (v : List ℕ × ℕ). v.0) (exact_versions (k, q) e.0 (tied (version_cmp (k, q) e.0) here))))
  | inr other ↦ inr (write_in k q es (λ none. n (ap (λ b. cond b (Some e.1) (write_at (k, q) es)) other ∙ none)))
]

pub in_write : (k : Key) (es : Writes) → In k (fronts_of es) → (q : ℕ) × (write_at (k, q) es ≢ None)
in_write k [] i = absurd i
in_write k (e ∷ es) (inl same) = (
  e.0.1,
  λ none. (let some = find_first (k, e.0.1) e es (ap (λ (j : List ℕ). (j, e.0.1)) (sym same)) in
      cc (some, none)),
)
in_write k (e ∷ es) (inr there) = (let rest = in_write k es there in (
  rest.0,
  λ none. elim (cases_Bool (is_eq (version_cmp (k, rest.0) e.0))) [
    | inl here ↦ (let some = ap (λ b. cond b (Some e.1) (write_at (k, rest.0) es)) here in cc (some, none))
    | inr other ↦ rest.1 (sym (ap (λ b. cond b (Some e.1) (write_at (k, rest.0) es)) other) ∙ none)
  ],
))

module _ (flat : FlatCells) where
  pub held_in : (k : Key) → IsHeld (flat_content flat k) → In k (held_keys flat)
  held_in k (inl lock) =
      order_in k (keys_of flat.locks.entries
      ++ fronts_of flat.writes.entries)
      (in_left k (keys_of flat.locks.entries) (fronts_of flat.writes.entries) (lock_in k flat.locks.entries lock))
  held_in k (inr write) =
      order_in k (keys_of flat.locks.entries
      ++ fronts_of flat.writes.entries)
      (in_right k (keys_of flat.locks.entries) (fronts_of flat.writes.entries)
      (write_in k write.0 flat.writes.entries write.1))

  pub in_held : (k : Key) → In k (held_keys flat) → IsHeld (flat_content flat k)
  in_held k i = elim (in_either k (keys_of flat.locks.entries) (fronts_of flat.writes.entries)
      (order_only k (keys_of flat.locks.entries ++ fronts_of flat.writes.entries) i)) [
        | inl lock ↦ inl (in_lock k flat.locks.entries lock)
        | inr write ↦ inr (in_write k flat.writes.entries write)
      ]

  rises : Rise (held_keys flat)
  rises = order_rises (keys_of flat.locks.entries ++ fronts_of flat.writes.entries)

  -- the rows of a walk after one step
  rows_next : (key next : Key) → IsTrue (key_lt key next) → IsHeld (flat_content flat next)
      → ((j : Key) → IsTrue (key_lt key j) → IsHeld (flat_content flat j) → IsTrue (key_le next j))
      → rows_from flat (Some key) ≡ (record { key = key; cells = cells_in (flat_content flat) key })
      ∷ rows_from flat (Some next)
  rows_next key next later held least =
      ap (λ (ks : List Key). rows_on (flat_content flat) (key ∷ ks))
      (next_above key next (held_keys flat) rises (held_in next held) later (λ j i up. least j up (in_held j i)))

  rows_last : (key : Key) → ((j : Key) → IsTrue (key_lt key j) → IsHeld (flat_content flat j) → ⊥)
      → rows_from flat (Some key) ≡ (record { key = key; cells = cells_in (flat_content flat) key })
      ∷ rows_from flat None
  rows_last key none = ap (λ (ks : List Key). rows_on (flat_content flat) (key ∷ ks))
      (none_above key (held_keys flat) (λ j i up. none j up (in_held j i)))

  -- whether another key follows or not
  pub rows_step : (key : Key) (next : Option Key) → FirstOf (key_lt key) (λ j. IsHeld (flat_content flat j)) next
      → rows_from flat (Some key) ≡ (record { key = key; cells = cells_in (flat_content flat) key })
      ∷ rows_from flat next
  rows_step key None none = rows_last key none
  rows_step key (Some next) is = rows_next key next is.passed is.among is.least

  -- ---- the walk from a key on

  rows_rise : (k : Key) (ks : List Key) → AreAbove k ks → Rise ks → AreInOrder (rows_on (flat_content flat) (k ∷ ks))
  rows_rise k [] a r = tt
  rows_rise k (x ∷ xs) a r = (a.0, rows_rise x xs r.0 r.1)

  filter_above : (k : Key) (ks : List Key) → AreAbove k (filter (key_lt k) ks)
  filter_above k [] = tt
  filter_above k (x ∷ xs) = elim (cases_Bool (key_lt k x)) [
    | inl up ↦ subst (AreAbove k) (sym (ap (λ b. cond b (x ∷ filter (key_lt k) xs) (filter (key_lt k) xs)) up)) (
      up,
      filter_above k xs,
    )
    | inr low ↦ subst (AreAbove k) (sym (ap (λ b. cond b (x ∷ filter (key_lt k) xs) (filter (key_lt k) xs)) low))
        (filter_above k xs)
  ]

  above_filter : (j : Key) (p : Key → Bool) (ks : List Key) → AreAbove j ks → AreAbove j (filter p ks)
  above_filter j p [] a = tt
  above_filter j p (x ∷ xs) a = elim (cases_Bool (p x)) [
    | inl yes_p ↦ subst (AreAbove j) (sym (ap (λ b. cond b (x ∷ filter p xs) (filter p xs)) yes_p)) (
      a.0,
      above_filter j p xs a.1,
    )
    | inr no_p ↦ subst (AreAbove j) (sym (ap (λ b. cond b (x ∷ filter p xs) (filter p xs)) no_p))
        (above_filter j p xs a.1)
  ]

  -- what is above a key is above those before it
  above_from : (j k : Key) (ks : List Key) → IsTrue (key_le j k) → AreAbove k ks → AreAbove j ks
  above_from j k [] le a = tt
  above_from j k (x ∷ xs) le a = (le_lt j k x le a.0, above_from j k xs le a.1)

  filter_rises : (p : Key → Bool) (ks : List Key) → Rise ks → Rise (filter p ks)
  filter_rises p [] r = tt
  filter_rises p (x ∷ xs) r = elim (cases_Bool (p x)) [
    | inl yes_p ↦ subst Rise (sym (ap (λ b. cond b (x ∷ filter p xs) (filter p xs)) yes_p)) (
      above_filter x p xs r.0,
      filter_rises p xs r.1,
    )
    | inr no_p ↦ subst Rise (sym (ap (λ b. cond b (x ∷ filter p xs) (filter p xs)) no_p)) (filter_rises p xs r.1)
  ]

  rows_pass : (k : Key) (ks : List Key) → AreAbove k ks → KeysPass (key_le k) (rows_on (flat_content flat) ks)
  rows_pass k [] a = tt
  rows_pass k (x ∷ xs) a = (lt_le k x a.0, rows_pass k xs a.1)

  -- a key of which nothing is held has nothing on it
  nothing_on : (k : Key) → (IsHeld (flat_content flat k) → ⊥) → cells_in (flat_content flat) k ≡ no_cells
  nothing_on k none = cells_same (option_map (lock_of x.value) x.lock) None
      (λ q. option_map (write_of x.value) (x.write q)) (λ q. None)
      (ap (option_map (lock_of x.value)) (no_lock x.lock refl))
      (λ q. ap (option_map (write_of x.value)) (no_write q (x.write q) refl))
    where
      x : OnKey
      x = flat_content flat k

      no_lock : (o : Option LockRec) → (flat_content flat k).lock ≡ o → (flat_content flat k).lock ≡ None
      no_lock None e = e
      no_lock (Some rec) e = absurd (none (inl (λ n. cc (e, n))))

      no_write : (q : ℕ) (o : Option WriteRec) → (flat_content flat k).write q ≡ o
          → (flat_content flat k).write q ≡ None
      no_write q None e = e
      no_write q (Some rec) e = absurd (none (inr (q, λ n. cc (e, n))))

  rows_cells : (k : Key) (ks : List Key) → ((In k ks → ⊥) → cells_in (flat_content flat) k ≡ no_cells)
      → cells_in (flat_content flat) k ≡ cells_by (rows_on (flat_content flat) ks) k
  rows_cells k [] none = none (λ i. i)
  rows_cells k (x ∷ xs) none = elim (cases_Bool (bytes_eq x k)) [
    | inl same ↦ ap (cells_in (flat_content flat)) (sym (same_key x k same))
        ∙ sym (ap (λ b. cond b (cells_in (flat_content flat) x) (cells_by (rows_on (flat_content flat) xs) k)) same)
    | inr other ↦ rows_cells k xs (λ n. none (λ i. elim i [
      | inl e ↦ (let is = ap (bytes_eq x) (sym e) ∙ key_same x in cc (is, other))
      | inr there ↦ n there
    ])) ∙ sym (ap (λ b. cond b (cells_in (flat_content flat) x) (cells_by (rows_on (flat_content flat) xs) k)) other)
  ]

  in_filter : (p : Key → Bool) (j : Key) (ks : List Key) → p j ≡ true → In j ks → In j (filter p ks)
  in_filter p j [] yes_p i = absurd i
  in_filter p j (x ∷ xs) yes_p (inl e) =
      subst (In j) (sym (ap (λ b. cond b (x ∷ filter p xs) (filter p xs)) (ap p e ∙ yes_p))) (inl e)
  in_filter p j (x ∷ xs) yes_p (inr i) = elim (cases_Bool (p x)) [
    | inl here ↦ subst (In j) (sym (ap (λ b. cond b (x ∷ filter p xs) (filter p xs)) here))
        (inr (in_filter p j xs yes_p i))
    | inr not_here ↦ subst (In j) (sym (ap (λ b. cond b (x ∷ filter p xs) (filter p xs)) not_here))
        (in_filter p j xs yes_p i)
  ]

  -- the first key that is held from one on, and those above it
  pub walk_from : (from : Key) (first : Option Key) → FirstOf (key_le from) (λ j. IsHeld (flat_content flat j)) first
      → IsWalk (cells_in (flat_content flat)) (key_le from) (rows_from flat first)
  walk_from from None none = record { rising = tt; inside = tt; all = λ k within. nothing_on k (none k within) }
  walk_from from (Some k) is = record {
    rising = rows_rise k (filter (key_lt k) (held_keys flat)) (filter_above k (held_keys flat))
        (filter_rises (key_lt k) (held_keys flat) rises);
    inside = (
      is.passed,
      rows_pass from (filter (key_lt k) (held_keys flat))
          (above_from from k (filter (key_lt k) (held_keys flat)) is.passed (filter_above k (held_keys flat))),
    );
    all = λ j within. rows_cells j (k
        ∷ filter (key_lt k) (held_keys flat)) (λ n. nothing_on j (λ held. elim (le_cases k j (is.least j within held)) [
          | inl up ↦ n (inr (in_filter (key_lt k) j (held_keys flat) up (held_in j held)))
          | inr same ↦ n (inl same)
        ]));
  }
