-- The entries of nested maps, as the rows of walks.
use Rattle.std.proofs.Common.{◌≡◌, inl, inr, Bool, true, false, cond, List, [], ◌∷◌, Option, Some, None, bytes_eq, refl, sym, ap, subst, ◌∙◌}
use Rattle.std.specs.Prelude.{IsTrue, option_map}
use Rattle.std.specs.List.{filter, AllByRecursion}
use Rattle.std.specs.List.Sorted.{IsStrictlySortedBy}
use Rattle.std.specs.Map.{keys_of, lookup}
use Rattle.std.specs.BTreeMap as tree
use Rattle.std.specs.Ordering.{nat_cmp, is_eq, is_lt}
use Rattle.std.specs.Cmp.Lexicographic.{slice_cmp}
use Rattle.std.specs.declared.cmp.Ordering.TheVariants.{Less}
use Rattle.std.proofs.lemmas.Bool.{cases_Bool}
use Rattle.std.proofs.lemmas.Slice.Eq.{bytes_eq-Decides}
use Rattle.std.proofs.lemmas.Map.Entries.{lookup-filter-keys}
use Rattle.std.proofs.lemmas.List.Kept.{IsStrictlySortedBy-filter}
use Rattle.tx_types.specs.declared.key.Key.{Key}
use Rattle.tx_types.specs.declared.lock.LockRec.{LockRec}
use Rattle.tx_types.specs.Keys.{key_lt}
use Rattle.tx_plan.specs.declared.view.LockHead.{LockHead}
use Rattle.tx_plan.specs.Cells.{Lock, Cells}
use Rattle.tx_plan.specs.Walks.{LockRow, AreInOrder, KeysPass, cells_by, IsWalk, every_key, LocksInOrder, lock_by, IsLockWalk}
use Rattle.tx_plan.specs.Views.{lock_head_of}
use Rattle.tx_nested.specs.declared.key.KeyFamilies.{KeyFamilies}
use Rattle.tx_cells.specs.Contents.{cells_of, lock_of}
use Rattle.tx_cells.specs.Heads.{lock_head}
use Rattle.tx_nested.specs.Nested.{held, held_on, key_rows, before_row, lock_rows}
use Rattle.tx_cells.proofs.Maps.{key_is}
use Rattle.tx_cells.proofs.RecordCells.{lock_heads}

abbrev pub Entries : Type 0
Entries = List (Key × KeyFamilies)

abbrev pub InOrder : Entries → Type 0
InOrder es = IsStrictlySortedBy (slice_cmp nat_cmp) (keys_of es)

abbrev pub find : Key → Entries → Option KeyFamilies
find k es = lookup (tree.is_at (slice_cmp nat_cmp k)) es

-- ---- keys

bytes_flip : (a b : Key) → bytes_eq a b ≡ bytes_eq b a
bytes_flip a b = elim (cases_Bool (bytes_eq a b)) [
  | inl e ↦ e ∙ sym ((bytes_eq-Decides b a).1 (sym ((bytes_eq-Decides a b).0 e)))
  | inr e ↦ elim (cases_Bool (bytes_eq b a)) [
    | inl f ↦ (let back : bytes_eq a b ≡ true = (bytes_eq-Decides a b).1 (sym ((bytes_eq-Decides b a).0 f)) in
        absurd (cc (e, back)))
    | inr f ↦ e ∙ sym f
  ]
]

pub at_is : (k j : Key) → is_eq (slice_cmp nat_cmp k j) ≡ bytes_eq j k
at_is k j = key_is k j ∙ bytes_flip k j

lt_of : (j k : Key) → slice_cmp nat_cmp j k ≡ Less → IsTrue (key_lt j k)
lt_of j k e = ap is_lt e

pub apart : (k j : Key) → slice_cmp nat_cmp k j ≡ Less → bytes_eq j k ≡ false
apart k j e = sym (at_is k j) ∙ ap is_eq e

-- ---- rows of keys

pub rows_rise : (es : Entries) → InOrder es → AreInOrder (key_rows es)
unfolding IsStrictlySortedBy
rows_rise [] s = tt
rows_rise (e ∷ []) s = tt
rows_rise (e ∷ f ∷ es) s = (lt_of e.0 f.0 s.0.0, rows_rise (f ∷ es) s.1)

-- what f makes of a choice
push : {A B : Type 0} (f : A → B) (b : Bool) (x y : A) → f (cond b x y) ≡ cond b (f x) (f y)
push f true x y = refl
push f false x y = refl

pub rows_cells : (es : Entries) (k : Key) → cells_of (held_on (find k es)) ≡ cells_by (key_rows es) k
rows_cells [] k = refl
rows_cells (e ∷ es) k =
    ap (λ b. cells_of (held_on (cond b (Some e.1) (find k es)))) (at_is k e.0)
    ∙ push (λ (o : Option KeyFamilies). cells_of (held_on o)) (bytes_eq e.0 k) (Some e.1) (find k es)
    ∙ ap (λ (c : Cells). cond (bytes_eq e.0 k) (cells_of (held e.1)) c) (rows_cells es k)

keys_filter : (p : Key → Bool) (es : Entries) → keys_of (filter (λ e. p e.0) es) ≡ filter p (keys_of es)
keys_filter p [] = refl
keys_filter p (e ∷ es) =
    push keys_of (p e.0) (e ∷ filter (λ x. p x.0) es) (filter (λ x. p x.0) es)
    ∙ ap (λ (w : List Key). cond (p e.0) (e.0 ∷ w) w) (keys_filter p es)

rows_pass : (p : Key → Bool) (es : Entries) → KeysPass p (key_rows (filter (λ e. p e.0) es))
rows_pass p [] = tt
rows_pass p (e ∷ es) = elim (cases_Bool (p e.0)) [
  | inl t ↦ subst (λ b. KeysPass p (key_rows (cond b (e ∷ filter (λ x. p x.0) es) (filter (λ x. p x.0) es)))) (sym t)
      (t, rows_pass p es)
  | inr f ↦ subst (λ b. KeysPass p (key_rows (cond b (e ∷ filter (λ x. p x.0) es) (filter (λ x. p x.0) es)))) (sym f)
      (rows_pass p es)
]

pub filter_walk : (p : Key → Bool) (es : Entries) → InOrder es
    → IsWalk (λ k. cells_of (held_on (find k es))) p (key_rows (filter (λ e. p e.0) es))
filter_walk p es s = record {
  rising = rows_rise (filter (λ e. p e.0) es)
      (subst (IsStrictlySortedBy (slice_cmp nat_cmp)) (sym (keys_filter p es))
      (IsStrictlySortedBy-filter (slice_cmp nat_cmp) p (keys_of es) s));
  inside = rows_pass p es;
  all = λ k within. ap (λ (o : Option KeyFamilies). cells_of (held_on o))
      (sym (lookup-filter-keys (tree.is_at (slice_cmp nat_cmp k)) p true
      (λ q at. ap p (sym ((bytes_eq-Decides k q).0 (sym (key_is k q) ∙ at))) ∙ within) es))
      ∙ rows_cells (filter (λ e. p e.0) es) k;
}

-- tests that say the same
pub filter_same : (p q : Key → Bool) → ((k : Key) → p k ≡ q k) → (es : Entries)
    → filter (λ e. p e.0) es ≡ filter (λ e. q e.0) es
filter_same p q same es = λ i. filter (λ e. same e.0 i) es

-- a walk over all keys
pub whole_walk : (es : Entries) → InOrder es → IsWalk (λ k. cells_of (held_on (find k es))) every_key (key_rows es)
whole_walk es s = record { rising = rows_rise es s; inside = pass es; all = λ k w. rows_cells es k }
  where
    pass : (fs : Entries) → KeysPass every_key (key_rows fs)
    pass [] = tt
    pass (f ∷ fs) = (refl, pass fs)

-- ---- rows of locks

abbrev pub IsAfter : Key → Entries → Type 0
IsAfter k es = AllByRecursion (λ j. slice_cmp nat_cmp k j ≡ Less) (keys_of es)

abbrev IsBefore : Key → List LockRow → Type 0
IsBefore k [] = Unit {0}
IsBefore k (x ∷ rows) = IsTrue (key_lt k x.key)

before_rows : (k : Key) (es : Entries) → IsAfter k es → IsBefore k (lock_rows es)
before_rows k [] a = tt
before_rows k (e ∷ es) a = go e.1.lock (before_rows k es a.1)
  where
    go : (o : Option LockRec) → IsBefore k (lock_rows es) → IsBefore k (before_row e.0 e.1 o (lock_rows es))
    go None rest = rest
    go (Some rec) rest = lt_of k e.0 a.0

in_front : (x : LockRow) (rows : List LockRow) → IsBefore x.key rows → LocksInOrder rows → LocksInOrder (x ∷ rows)
in_front x [] b h = tt
in_front x (y ∷ rows) b h = (b, h)

pub locks_rise : (es : Entries) → InOrder es → LocksInOrder (lock_rows es)
unfolding IsStrictlySortedBy
locks_rise [] s = tt
locks_rise (e ∷ es) s = go e.1.lock (before_rows e.0 es s.0) (locks_rise es s.1)
  where
    go : (o : Option LockRec) → IsBefore e.0 (lock_rows es) → LocksInOrder (lock_rows es)
        → LocksInOrder (before_row e.0 e.1 o (lock_rows es))
    go None first rest = rest
    go (Some rec) first rest =
        in_front (record { key = e.0; lock = lock_of (held e.1).value rec }) (lock_rows es) first rest

none_before : (k : Key) (es : Entries) → IsAfter k es → None ≡ lock_by (lock_rows es) k
none_before k [] a = refl
none_before k (e ∷ es) a = go e.1.lock (none_before k es a.1)
  where
    go : (o : Option LockRec) → None ≡ lock_by (lock_rows es) k → None ≡ lock_by (before_row e.0 e.1 o (lock_rows es)) k
    go None rest = rest
    go (Some rec) rest = rest
        ∙ sym (ap (λ b. cond b (Some (lock_of (held e.1).value rec)) (lock_by (lock_rows es) k)) (apart k e.0 a.0))

pub rows_locks : (es : Entries) → InOrder es → (k : Key)
    → (cells_of (held_on (find k es))).lock ≡ lock_by (lock_rows es) k
unfolding IsStrictlySortedBy
rows_locks [] s k = refl
rows_locks (e ∷ es) s k = elim (cases_Bool (bytes_eq e.0 k)) [
  | inl same ↦ ap (λ b. (cells_of (held_on (cond b (Some e.1) (find k es)))).lock) (at_is k e.0 ∙ same)
      ∙ here e.1.lock refl same
  | inr other ↦ ap (λ b. (cells_of (held_on (cond b (Some e.1) (find k es)))).lock) (at_is k e.0 ∙ other)
      ∙ rows_locks es s.1 k ∙ there e.1.lock other
]
  where
    here : (o : Option LockRec) → e.1.lock ≡ o → bytes_eq e.0 k ≡ true
        → option_map (lock_of (held e.1).value) o ≡ lock_by (before_row e.0 e.1 o (lock_rows es)) k
    here None f same = subst (λ (j : Key). None
        ≡ lock_by (lock_rows es) j) ((bytes_eq-Decides e.0 k).0 same) (none_before e.0 es s.0)
    here (Some rec) f same =
        sym (ap (λ b. cond b (Some (lock_of (held e.1).value rec)) (lock_by (lock_rows es) k)) same)

    there : (o : Option LockRec) → bytes_eq e.0 k ≡ false
        → lock_by (lock_rows es) k ≡ lock_by (before_row e.0 e.1 o (lock_rows es)) k
    there None other = refl
    there (Some rec) other =
        sym (ap (λ b. cond b (Some (lock_of (held e.1).value rec)) (lock_by (lock_rows es) k)) other)

pub lock_walk : (es : Entries) → InOrder es → IsLockWalk (λ k. cells_of (held_on (find k es))) (lock_rows es)
lock_walk es s = record { rising = locks_rise es s; all = rows_locks es s }

-- ---- one step

-- the row of the next key that has a lock
pub next_lock : (key : Key) (x : KeyFamilies) (rows : List LockRow) (o : Option LockRec) (head : LockHead)
    → Some head ≡ option_map lock_head o
    → (lock : Lock) × (before_row key x o rows ≡ (record { key = key; lock = lock }) ∷ rows)
    × (head ≡ lock_head_of lock)
next_lock key x rows None head e = absurd (cc e)
next_lock key x rows (Some rec) head e = (
    let is : Some head ≡ Some (lock_head_of (lock_of (held x).value rec)) = e ∙ lock_heads (held x).value (Some rec) in
    (lock_of (held x).value rec, refl, cc is))

pub no_next_lock : (key : Key) (x : KeyFamilies) (rows : List LockRow) (o : Option LockRec)
    → None ≡ option_map lock_head o → before_row key x o rows ≡ rows
no_next_lock key x rows None e = refl
no_next_lock key x rows (Some rec) e = absurd (cc e)
