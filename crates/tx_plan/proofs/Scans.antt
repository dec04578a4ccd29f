-- A scan that walks the rows of a region: what it has found so far, at each row, and where it ends.
use Rattle.std.proofs.Common.{◌≡◌, ◌⊎◌, inl, inr, refl, sym, ap, ◌∙◌, subst, Bool, true, false, cond, List, [], ◌∷◌, ◌++◌, length, length-append, ℕ, ◌<◌, ◌≤◌, arith, Option, Some, None}
use Rattle.std.specs.Prelude.{IsTrue, bytes_eq, ◌&&◌, ◌||◌, nat_lt, max, MatchOption, option_map}
use Rattle.std.proofs.lemmas.Bool.{and_parts, and_from, or_cases, or_right, or_left, cases_Bool, le-ltb}
use Rattle.tx_types.specs.declared.key.Key.{Key}
use Rattle.tx_types.specs.declared.lock.LockInfo.{LockInfo}
use Rattle.tx_types.specs.declared.value.Value.{Value}
use Rattle.tx_types.specs.declared.mutation.KeyValue.{KeyValue}
use Rattle.tx_plan.specs.declared.body.Scan.{Scan}
use Rattle.tx_plan.specs.declared.answer.Answer.{Answer}
use Rattle.tx_plan.specs.declared.answer.Answer.TheVariants.{Rows, KeyIsLocked}
use Rattle.tx_types.specs.Keys.{key_lt, key_le, IsRising, value_in, reaches}
use Rattle.tx_plan.specs.Cells.{Lock, Cells, no_cells, info_of}
use Rattle.tx_plan.specs.Reads.{Blocks, Finds, Reads, Walked, in_range, covered, raised}
use Rattle.tx_plan.specs.Walks.{KeyRow, AreInOrder, IsWalk}
use Rattle.tx_plan.specs.declared.view.ReadView.{ReadView}
use Rattle.tx_plan.specs.declared.planned_answer.PlannedAnswer.TheVariants as planned
use Rattle.tx_plan.specs.Plans.{answer_with}
use Rattle.tx_plan.specs.Views.{ComesNext, IsBlocked, info_on}
use Rattle.tx_plan.specs.cases.Scan.{GivesRows, MeetsLock}
use Rattle.tx_plan.proofs.KeyOrder.{ordered, lt_trans, le_itself, lt_le, lt_other, lt_itself, lt_back, le_lt, lt_then_le, same_key, key_same, other_key}
use Rattle.tx_plan.proofs.WalkRows.{comes_before, AreLeft, left_first, left_rest, first_cells, first_before_rest, gap_none, start_none}

-- ---- rows that are given

abbrev pub row_of : Key → Value → KeyValue
row_of k v = record { key = k; value = v }

value_here : (y : KeyValue) (rows : List KeyValue) → value_in (y ∷ rows) y.key ≡ Some y.value
value_here y rows = rw (key_same y.key) refl

-- what holds of each key that has a row holds of those after the first
after_first : (P : Key → Type 0) (y : KeyValue) (rows : List KeyValue)
    → ((k : Key) (v : Value) → value_in (y ∷ rows) k ≡ Some v → P k) → (k : Key) (v : Value) → value_in rows k ≡ Some v
    → P k
after_first P y rows all k v e =
    elim (cases_Bool (bytes_eq y.key k)) [
      | inl same ↦ all k y.value (rw same refl)
      | inr other ↦ all k v (rw other e)
    ]

rising_push : (rows : List KeyValue) (x : KeyValue) → IsRising rows
    → ((k : Key) (v : Value) → value_in rows k ≡ Some v → IsTrue (key_lt k x.key)) → IsRising (rows ++ x ∷ [])
rising_push [] x h all = tt
rising_push (y ∷ []) x h all = (all y.key y.value (value_here y []), tt)
rising_push (y ∷ z ∷ rows) x h all =
    (h.0, rising_push (z ∷ rows) x h.1 (after_first (λ k. IsTrue (key_lt k x.key)) y (z ∷ rows) all))

value_other : (rows : List KeyValue) (x : KeyValue) (k : Key) → bytes_eq x.key k ≡ false
    → value_in (rows ++ x ∷ []) k ≡ value_in rows k
value_other [] x k e = rw e refl
value_other (y ∷ rows) x k e = ap (λ o. cond (bytes_eq y.key k) (Some y.value) o) (value_other rows x k e)

value_new : (rows : List KeyValue) (x : KeyValue) (k : Key) → value_in rows k ≡ None → bytes_eq x.key k ≡ true
    → value_in (rows ++ x ∷ []) k ≡ Some x.value
value_new [] x k none e = rw e refl
value_new (y ∷ rows) x k none e =
    elim (cases_Bool (bytes_eq y.key k)) [
      | inl same ↦ (let some : value_in (y ∷ rows) k ≡ Some y.value = rw same refl in absurd (cc (some, none)))
      | inr other ↦ (let rest : value_in rows k ≡ None =
          (let e : value_in (y ∷ rows) k ≡ value_in rows k = rw other refl in sym e ∙ none) in
          (rw other (value_new rows x k rest e)))
    ]

reaches_own : (rows : List KeyValue) (k : Key) (v : Value) → value_in rows k ≡ Some v → reaches rows k ≡ true
reaches_own [] k v e = absurd (cc (e))
reaches_own (y ∷ rows) k v e =
    elim (ordered k y.key) [
      | inl lt ↦ or_left (key_le k y.key) (reaches rows k) (lt_le k y.key lt)
      | inr n ↦ elim n [
        | inl same ↦ or_left (key_le k y.key) (reaches rows k) (subst (λ q. IsTrue (key_le k q)) same (le_itself k))
        | inr gt ↦ (let past : value_in rows k ≡ Some v =
            (let same : value_in (y ∷ rows) k ≡ value_in rows k = rw (lt_other y.key k gt) refl in sym same ∙ e) in
            or_right (key_le k y.key) (reaches rows k) (reaches_own rows k v past))
      ]
    ]

reaches_below : (rows : List KeyValue) (k bound : Key) → reaches rows k ≡ true
    → ((j : Key) (v : Value) → value_in rows j ≡ Some v → IsTrue (key_lt j bound)) → IsTrue (key_lt k bound)
reaches_below [] k bound e all = absurd (cc (e))
reaches_below (y ∷ rows) k bound e all =
    elim (or_cases (key_le k y.key) (reaches rows k) e) [
      | inl le ↦ le_lt k y.key bound le (all y.key y.value (value_here y rows))
      | inr rest ↦ reaches_below rows k bound rest (after_first (λ j. IsTrue (key_lt j bound)) y rows all)
    ]

-- ---- where nothing stands

free_there : (on : Cells) (r : ℕ) (bypass : List ℕ) (lock : Lock) → on ≡ no_cells → Blocks on.lock r bypass lock → ⊥
free_there on r bypass lock e blocks = let none : on.lock ≡ None = ap (λ (c : Cells). c.lock) e in
    cc (none, blocks.stands)

none_there : (on : Cells) (r : ℕ) (v : Value) → on ≡ no_cells → Finds on.write r v → ⊥
none_there on r v e finds = let none : on.write finds.at ≡ None = ap (λ (c : Cells). c.write finds.at) e in
    cc (none, finds.stands)

-- ---- what a scan has found

-- the keys that a scan from a key has passed, where these rows are still to come
abbrev pub passed : Key → List KeyRow → Key → Bool
passed from rest k = key_le from k && comes_before rest k

-- a scan has passed the keys before the rows that are still to come, and has these rows to give
pub record Scanned (cells : Key → Cells) (b : Scan) (rest : List KeyRow) (rows : List KeyValue) : Type 0 where
  pub left : AreLeft cells (key_le b.from) rest
  pub walked : Walked cells b.at b.bypass (passed b.from rest) rows
  pub short : (k : Key) (v : Value) → value_in rows k ≡ Some v → IsTrue (key_lt k b.to)
  pub upto : length rows ≤ b.limit

pub scan_starts : (cells : Key → Cells) (b : Scan) (all : List KeyRow) → IsWalk cells (key_le b.from) all
    → Scanned cells b all []
scan_starts cells b all walk = record {
  left = left_first cells (key_le b.from) all walk;
  walked = record {
    rising = tt;
    inside = λ k v e. absurd (cc (e));
    free = λ k lock w blocks. (let both = and_parts (key_le b.from k) (comes_before all k) w in
        free_there (cells k) b.at b.bypass lock (start_none cells (key_le b.from) all k walk both.0 both.1) blocks);
    read = λ k w v finds. (let both = and_parts (key_le b.from k) (comes_before all k) w in
        none_there (cells k) b.at v (start_none cells (key_le b.from) all k walk both.0 both.1) finds);
  };
  short = λ k v e. absurd (cc (e));
  upto = omega arith;
}

module _ (cells : Key
    → Cells) (b : Scan) (x : KeyRow) (rest : List KeyRow) (rows : List KeyValue) (so :
    Scanned cells b (x ∷ rest) rows) where
  here : cells x.key ≡ x.cells
  here = first_cells cells (key_le b.from) x rest so.left

  -- a key that is passed with the first row was passed before, is its key, or has nothing
  cases_passed : (k : Key) → IsTrue (passed b.from rest k)
      → IsTrue (passed b.from (x ∷ rest) k) ⊎ ((k ≡ x.key) ⊎ (IsTrue (key_lt x.key k) × (cells k ≡ no_cells)))
  cases_passed k w =
      let both = and_parts (key_le b.from k) (comes_before rest k) w in
      elim (ordered k x.key) [
        | inl lt ↦ inl (and_from (key_le b.from k) (key_lt k x.key) both.0 lt)
        | inr n ↦ elim n [
          | inl same ↦ inr (inl same)
          | inr gt ↦ inr (inr (
            gt,
            gap_none cells (key_le b.from) x rest k so.left both.0 (not_lt_of k gt)
                (λ e. lt_itself k (subst (λ q. IsTrue (key_lt q k)) e gt)) both.1,
          ))
        ]
      ]
    where
      not_lt_of : (q : Key) → IsTrue (key_lt x.key q) → key_lt q x.key ≡ false
      not_lt_of q gt = elim (cases_Bool (key_lt q x.key)) [ inl e ↦ absurd (lt_back q x.key e gt) | inr e ↦ e ]

  still_passed : (k : Key) → IsTrue (passed b.from (x ∷ rest) k) → IsTrue (passed b.from rest k)
  still_passed k w = let both = and_parts (key_le b.from k) (key_lt k x.key) w in
      and_from (key_le b.from k) (comes_before rest k) both.0 (later rest so.left.rising both.1)
    where
      later : (ys : List KeyRow) → AreInOrder (x ∷ ys) → IsTrue (key_lt k x.key) → IsTrue (comes_before ys k)
      later [] h lt = refl
      later (y ∷ ys) h lt = lt_trans k x.key y.key lt h.0

  first_passed : IsTrue (passed b.from rest x.key)
  first_passed = and_from (key_le b.from x.key) (comes_before rest x.key) so.left.inside.0
      (first_before_rest x rest so.left.rising)

  rows_before : (k : Key) (v : Value) → value_in rows k ≡ Some v → IsTrue (key_lt k x.key)
  rows_before k v e = (and_parts (key_le b.from k) (key_lt k x.key) (so.walked.inside k v e)).1

  no_row : (k : Key) → (IsTrue (key_lt k x.key) → ⊥) → value_in rows k ≡ None
  no_row k not = elim (value_in rows k) as (λ o. value_in rows k ≡ o → o ≡ None) [
    | None ↦ λ e. refl
    | Some v ↦ λ e. absurd (not (rows_before k v e))
  ] refl

  still_free : ((lock : Lock) → Blocks x.cells.lock b.at b.bypass lock → ⊥) → (k : Key) (lock : Lock)
      → IsTrue (passed b.from rest k) → Blocks (cells k).lock b.at b.bypass lock → ⊥
  still_free free k lock w blocks =
      elim (cases_passed k w) [
        | inl old ↦ so.walked.free k lock old blocks
        | inr n ↦ elim n [
          | inl same ↦ free lock (subst (λ (c : Cells). Blocks c.lock b.at b.bypass lock) (ap cells same ∙ here) blocks)
          | inr gap ↦ free_there (cells k) b.at b.bypass lock gap.1 blocks
        ]
      ]

  -- a key with no value is passed
  pub scan_skips : ((lock : Lock) → Blocks x.cells.lock b.at b.bypass lock → ⊥) → Reads x.cells.write b.at None
      → Scanned cells b rest rows
  scan_skips free none = record {
    left = left_rest cells (key_le b.from) x rest so.left;
    walked = record {
      rising = so.walked.rising;
      inside = λ k v e. still_passed k (so.walked.inside k v e);
      free = still_free free;
      read = λ k w. reads k w;
    };
    short = so.short;
    upto = so.upto;
  }
    where
      reads : (k : Key) → IsTrue (passed b.from rest k) → Reads (cells k).write b.at (value_in rows k)
      reads k w =
          elim (cases_passed k w) [
            | inl old ↦ so.walked.read k old
            | inr n ↦ elim n [
              | inl same ↦ subst (Reads (cells k).write b.at)
                  (sym (no_row k (λ lt. lt_itself x.key (subst (λ q. IsTrue (key_lt q x.key)) same lt))))
                  (λ v finds. none v (subst (λ (c : Cells). Finds c.write b.at v) (ap cells same ∙ here) finds))
              | inr gap ↦ subst (Reads (cells k).write b.at) (sym (no_row k (λ lt. lt_back k x.key lt gap.0)))
                  (λ v finds. none_there (cells k) b.at v gap.1 finds)
            ]
          ]

  -- a key with a value gives a row
  pub scan_gives : (v : Value) → ((lock : Lock) → Blocks x.cells.lock b.at b.bypass lock → ⊥)
      → Finds x.cells.write b.at v → IsTrue (key_lt x.key b.to) → length rows < b.limit
      → Scanned cells b rest (rows ++ row_of x.key v ∷ [])
  scan_gives v free finds short more = record {
    left = left_rest cells (key_le b.from) x rest so.left;
    walked = record {
      rising = rising_push rows (row_of x.key v) so.walked.rising rows_before;
      inside = inside;
      free = still_free free;
      read = λ k w. reads k w;
    };
    short = λ k u e. (elim (cases_Bool (bytes_eq x.key k)) [
      | inl same ↦
          subst (λ q. IsTrue (key_lt q b.to)) (same_key x.key k same) short
      | inr other ↦ so.short k u (sym (value_other rows (row_of x.key v) k other) ∙ e)
    ]);
    upto = omega (arith, length-append rows (row_of x.key v ∷ []));
  }
    where
      inside : (k : Key) (u : Value) → value_in (rows ++ row_of x.key v ∷ []) k ≡ Some u → IsTrue (passed b.from rest k)
      inside k u e = elim (cases_Bool (bytes_eq x.key k)) [
        | inl same ↦
            subst (λ q. IsTrue (passed b.from rest q)) (same_key x.key k same) first_passed
        | inr other ↦ still_passed k (so.walked.inside k u (sym (value_other rows (row_of x.key v) k other) ∙ e))
      ]

      reads : (k : Key) → IsTrue (passed b.from rest k)
          → Reads (cells k).write b.at (value_in (rows ++ row_of x.key v ∷ []) k)
      reads k w =
          elim (cases_passed k w) [
            | inl old ↦ subst (Reads (cells k).write b.at)
                (sym (value_other rows (row_of x.key v) k
                (other_key x.key k (λ e. lt_itself k
                (subst (λ q. IsTrue (key_lt k q)) e (and_parts (key_le b.from k) (key_lt k x.key) old).1)))))
                (so.walked.read k old)
            | inr n ↦ elim n [
              | inl same ↦ subst (Reads (cells k).write b.at)
                  (sym (value_new rows (row_of x.key v) k
                  (no_row k (λ lt. lt_itself x.key (subst (λ q. IsTrue (key_lt q x.key)) same lt)))
                  (subst (λ q. bytes_eq x.key q ≡ true) (sym same) (key_same x.key))))
                  (subst (λ (c : Cells). Finds c.write b.at v) (sym (ap cells same ∙ here)) finds)
              | inr gap ↦ subst (Reads (cells k).write b.at)
                  (sym (value_other rows (row_of x.key v) k (lt_other x.key k gap.0)
                  ∙ no_row k (λ lt. lt_back k x.key lt gap.0))) (λ u f. none_there (cells k) b.at u gap.1 f)
            ]
          ]

  -- a key that a lock blocks ends the scan
  pub scan_meets : (lock : Lock) (a : Answer) → Blocks x.cells.lock b.at b.bypass lock
      → a ≡ KeyIsLocked (info_of x.key lock) → IsTrue (key_lt x.key b.to) → length rows < b.limit → MeetsLock cells b a
  scan_meets lock a blocks e short more = record {
    key = x.key;
    lock = lock;
    rows = rows;
    answer = e;
    inside = and_from (key_le b.from x.key) (key_lt x.key b.to) so.left.inside.0 short;
    blocks = subst (λ (c : Cells). Blocks c.lock b.at b.bypass lock) (sym here) blocks;
    before = so.walked;
    below = more;
  }

-- a scan that has passed the keys that its rows cover has found them
scan_ends : (cells : Key → Cells) (b : Scan) (rest : List KeyRow) (rows : List KeyValue) (a : Answer)
    → Scanned cells b rest rows → a ≡ Rows rows → ((k : Key) → IsTrue (covered b rows k) → IsTrue (comes_before rest k))
    → GivesRows cells b a
scan_ends cells b rest rows a so e through = record {
  rows = rows;
  answer = e;
  upto = so.upto;
  walked = record {
    rising = so.walked.rising;
    inside = λ k v x. (let old = and_parts (key_le b.from k) (comes_before rest k) (so.walked.inside k v x) in
        and_from (in_range b k) (nat_lt (length rows) b.limit
        || reaches rows k) (and_from (key_le b.from k) (key_lt k b.to) old.0 (so.short k v x))
        (or_right (nat_lt (length rows) b.limit) (reaches rows k) (reaches_own rows k v x)));
    free = λ k lock w. so.walked.free k lock (was_passed k w);
    read = λ k w. so.walked.read k (was_passed k w);
  };
}
  where
    was_passed : (k : Key) → IsTrue (covered b rows k) → IsTrue (passed b.from rest k)
    was_passed k w = let both = and_parts (in_range b k) (nat_lt (length rows) b.limit || reaches rows k) w in
        and_from (key_le b.from k) (comes_before rest k) (and_parts (key_le b.from k) (key_lt k b.to) both.0).0
        (through k w)

-- where no row is to come
pub scan_ends_all : (cells : Key → Cells) (b : Scan) (rest : List KeyRow) (rows : List KeyValue) (a : Answer)
    → Scanned cells b rest rows → rest ≡ [] → a ≡ Rows rows → GivesRows cells b a
scan_ends_all cells b rest rows a so none e = scan_ends cells b rest rows a so e (λ k w. rw none refl)

-- where the next row lies at the end of the range or past it
pub scan_ends_range :
    (cells : Key → Cells) (b : Scan) (x : KeyRow) (rest : List KeyRow) (rows : List KeyValue) (a : Answer)
    → Scanned cells b (x ∷ rest) rows → IsTrue (key_le b.to x.key) → a ≡ Rows rows → GivesRows cells b a
scan_ends_range cells b x rest rows a so past e =
    scan_ends cells b (x ∷ rest) rows a so e
    (λ k w. (let both = and_parts (in_range b k) (nat_lt (length rows) b.limit || reaches rows k) w in
    lt_then_le k b.to x.key (and_parts (key_le b.from k) (key_lt k b.to) both.0).1 past))

-- where the limit is reached
pub scan_ends_limit : (cells : Key → Cells) (b : Scan) (rest : List KeyRow) (rows : List KeyValue) (a : Answer)
    → Scanned cells b rest rows → b.limit ≤ length rows → a ≡ Rows rows → GivesRows cells b a
scan_ends_limit cells b rest rows a so full e = scan_ends cells b rest rows a so e (through rest so)
  where
    through : (left : List KeyRow) → Scanned cells b left rows → (k : Key) → IsTrue (covered b rows k)
        → IsTrue (comes_before left k)
    through [] there k w = refl
    through (x ∷ left) there k w =
        let both = and_parts (in_range b k) (nat_lt (length rows) b.limit || reaches rows k) w in
        elim (or_cases (nat_lt (length rows) b.limit) (reaches rows k) both.1) [
          | inl lt ↦ (let ge : nat_lt (length rows) b.limit ≡ false = le-ltb (length rows) b.limit full in
              absurd (cc (lt, ge)))
          | inr r ↦ reaches_below rows k x.key r
              (λ j v h. (and_parts (key_le b.from j) (key_lt j x.key) (there.walked.inside j v h)).1)
        ]

-- ---- a step of the loop

-- the key that comes next
pub next_key : (left rest : List KeyRow) (at : ℕ) (found : Option (Key × ReadView)) (k : Key) (view : ReadView)
    → MatchOption found (left ≡ []) (λ (x : Key × ReadView). ComesNext left rest at x.0 x.1) → found ≡ Some (k, view)
    → ComesNext left rest at k view
next_key left rest at found k view next e =
    subst (λ (o : Option (Key × ReadView)). MatchOption o (left
    ≡ []) (λ (x : Key × ReadView). ComesNext left rest at x.0 x.1)) e next

-- no key comes next
pub no_key : (left rest : List KeyRow) (at : ℕ) (found : Option (Key × ReadView))
    → MatchOption found (left ≡ []) (λ (x : Key × ReadView). ComesNext left rest at x.0 x.1) → found ≡ None → left ≡ []
no_key left rest at found next e =
    subst (λ (o : Option (Key × ReadView)). MatchOption o (left
    ≡ []) (λ (x : Key × ReadView). ComesNext left rest at x.0 x.1)) e next

module _ (cells : Key
    → Cells) (b : Scan) (left rest : List KeyRow) (k : Key) (view : ReadView) (rows : List KeyValue) (so :
    Scanned cells b left rows) (next : ComesNext left rest b.at k view) where
  abbrev row : KeyRow
  row = record { key = k; cells = next.cells }

  there : Scanned cells b (row ∷ rest) rows
  there = subst (λ r. Scanned cells b r rows) next.first so

  on_key : cells k ≡ next.cells
  on_key = first_cells cells (key_le b.from) row rest there.left

  -- the range ends before it
  pub step_ends : (a : Answer) → IsTrue (key_le b.to k) → a ≡ Rows rows → GivesRows cells b a
  step_ends a past e = scan_ends_range cells b row rest rows a there past e

  -- its lock blocks the scan
  pub step_blocked : (now : Key → Cells) (info : Option LockInfo) (a : Answer) → now ≡ cells → info ≡ info_on (now k) k
      → a ≡ answer_with info planned.KeyIsLocked → IsBlocked next.cells.lock b.at b.bypass → IsTrue (key_lt k b.to)
      → length rows < b.limit → MeetsLock cells b a
  step_blocked now info a same is e blocked short more =
      let lock = blocked.0 in
      let found : info ≡ Some (info_of k lock) =
      is ∙ ap (λ (f : Key → Cells). info_on (f k) k) same ∙ ap (λ (c : Cells). info_on c k) on_key
      ∙ ap (option_map (info_of k)) blocked.1.stands in
      scan_meets cells b row rest rows there lock a blocked.1 (e
      ∙ ap (λ (o : Option LockInfo). answer_with o planned.KeyIsLocked) found) short more

  -- it is free and has a value
  pub step_gives : (v : Value) → view.value ≡ Some v → (IsBlocked next.cells.lock b.at b.bypass → ⊥)
      → IsTrue (key_lt k b.to) → length rows < b.limit → Scanned cells b rest (rows ++ row_of k v ∷ [])
  step_gives v e free short more =
      scan_gives cells b row rest rows there v (λ lock blocks. free (lock, blocks))
      (subst (Reads next.cells.write b.at) e next.shows.value) short more

  -- it is free and has none
  pub step_skips : view.value ≡ None → (IsBlocked next.cells.lock b.at b.bypass → ⊥) → Scanned cells b rest rows
  step_skips e free = scan_skips cells b row rest rows there (λ lock blocks. free (lock, blocks))
      (subst (Reads next.cells.write b.at) e next.shows.value)

-- a scan that was not refused raises the greatest timestamp read
pub scan_raises : (cells : Key → Cells) (b : Scan) (a : Answer) (max_read : ℕ)
    → MeetsLock cells b a ⊎ GivesRows cells b a → raised a b.at max_read ≡ max max_read b.at
scan_raises cells b a max_read (inl meets) = ap (λ x. raised x b.at max_read) meets.answer
scan_raises cells b a max_read (inr gives) = ap (λ x. raised x b.at max_read) gives.answer
