-- The size of more rows, and of those of a range.
use Rattle.std.proofs.Common.{◌≡◌, ◌+◌, ◌-◌, ◌^◌, ◌≤◌, ◌++◌, ◌∷◌, [], ℕ, min, List, length, Option, Some, None, IsTrue, arith, refl, sym, ap, subst, ◌∙◌}
use Rattle.std.proofs.lemmas.List.{length-append}
use Rattle.tx_types.specs.declared.key.Key.{Key}
use Rattle.tx_types.specs.declared.value.Value.{Value}
use Rattle.tx_types.specs.declared.mutation.KeyValue.{KeyValue}
use Rattle.tx_types.specs.Keys.{is_between, is_scanned, key_le, key_lt}
use Rattle.tx_core.specs.Histories.{History, Begins}
use Rattle.tx_core.specs.Worlds.{IsWorldRun}
use Rattle.tx_laws.specs.Rows.{AreRowsOf}
use Rattle.tx_update.specs.Ranges.{IsSplit, greatest, row_of}
use Rattle.tx_update.specs.Reads.{SeesOn}
use Rattle.tx_update.proofs.Pages.{AreSoFar, all_so_far, later_so_far, more_so_far, none_so_far}
use Rattle.tx_update.proofs.Ranges.{range_above, range_upto, range_with_top}
use Rattle.tx_kv.specs.declared.size.Size.{Size}
use Rattle.tx_kv.specs.Counters.{counted}
use Rattle.tx_kv.specs.NumberValues.{number_of, or_zero, sum_of, total_of}
use Rattle.tx_kv.specs.Sizes.{HasSize, IsSizeOf, bytes_of, size_of}
use Rattle.tx_kv.proofs.Views.{SeenAt, seen_now}

pub counted_more : (a b : ℕ) → counted (counted a + b) ≡ counted (a + b)
counted_more a b = grind arith

pub bytes_both : (xs ys : List KeyValue) → bytes_of (xs ++ ys) ≡ bytes_of xs + bytes_of ys
bytes_both [] ys = omega arith
bytes_both (x ∷ xs) ys =
    let rest = bytes_both xs ys in
    omega (arith, rest)

pub append_none : (xs : List KeyValue) → xs ++ [] ≡ xs
append_none [] = refl
append_none (x ∷ xs) = ap (λ (ys : List KeyValue). x ∷ ys) (append_none xs)

pub append_more : (xs ys zs : List KeyValue) → (xs ++ ys) ++ zs ≡ xs ++ (ys ++ zs)
append_more [] ys zs = refl
append_more (x ∷ xs) ys zs = ap (λ (rest : List KeyValue). x ∷ rest) (append_more xs ys zs)

abbrev sized : ℕ → ℕ → Size
sized n m = record { keys = n; bytes = m }

-- the size of rows with one more behind them
pub size_more : (size new : Size) (rows : List KeyValue) (row : KeyValue) → size ≡ size_of rows
    → new.keys ≡ counted (size.keys + 1)
    → new.bytes ≡ counted (counted (size.bytes + length row.key) + length row.value)
    → new ≡ size_of (rows ++ row ∷ [])
size_more size new rows row is k b = both
    (k ∙ ap (λ (s : Size). counted (s.keys + 1)) is ∙ counted_more (length rows) 1
    ∙ ap counted (sym (length-append rows (row ∷ []))))
    (b ∙ counted_more (size.bytes + length row.key) (length row.value)
    ∙ ap (λ (s : Size). counted (s.bytes + length row.key + length row.value)) is ∙ by_bytes)
  where
    all : List KeyValue
    all = rows ++ row ∷ []

    both : new.keys ≡ counted (length all) → new.bytes ≡ counted (bytes_of all) → new ≡ size_of all
    both n m =
        subst (λ x. new ≡ sized x (counted (bytes_of all))) n (subst (λ y. new ≡ sized new.keys y) m refl)

    by_bytes : counted (counted (bytes_of rows) + length row.key + length row.value) ≡ counted (bytes_of all)
    by_bytes =
        let sum = bytes_both rows (row ∷ []) in
        let first = counted_more (bytes_of rows) (length row.key + length row.value) in
        grind (arith, sum, first)

-- ---- numbers

total_both : (xs ys : List KeyValue) → total_of (xs ++ ys) ≡ total_of xs + total_of ys
total_both [] ys = omega arith
total_both (x ∷ xs) ys =
    let rest = total_both xs ys in
    omega (arith, rest)

-- the sum of rows with one more behind them
pub sum_more : (rows : List KeyValue) (row : KeyValue) (sum number new : ℕ) → sum ≡ sum_of rows
    → number ≡ or_zero (number_of row.value) → new ≡ counted (sum + number) → new ≡ sum_of (rows ++ row ∷ [])
sum_more rows row sum number new is of grown =
    let both = total_both rows (row ∷ []) in
    let first = counted_more (total_of rows) (or_zero (number_of row.value)) in
    grind (arith, is, of, grown, both, first)

-- ---- pages

module _ (tells : Key → Option Value → Type 0) (from to : Key) where
  -- the size so far is that of the rows up to a key, at which the next page begins
  abbrev pub IsSoFar : Key → Size → Type 0
  IsSoFar next size = (rows : List KeyValue) × AreSoFar tells from to next rows × (size ≡ size_of rows)

  pub none_sized : (size : Size) → size ≡ size_of [] → (next : Key) → next ≡ from → IsSoFar next size
  none_sized size is next same =
      ([], subst (λ (k : Key). AreSoFar tells from to k []) (sym same) (none_so_far tells from to), is)

  pub all_sized : (next : Key) (size : Size) → IsSoFar next size → IsTrue (key_le to next)
      → IsSizeOf (is_between from to) tells size
  all_sized next size (rows, so_far, is) upto = (rows, all_so_far tells from to next rows so_far upto, is)

  pub more_sized : (limit : ℕ) (next end upto : Key) (part front : List KeyValue) (size new : Size)
      → IsSoFar next size → IsTrue (key_le next end) → IsTrue (key_le end to)
      → AreRowsOf (is_scanned next end limit part) tells part → IsSplit limit part end front upto
      → ((before : List KeyValue) → size ≡ size_of before → new ≡ size_of (before ++ front)) → IsSoFar upto new
  more_sized limit next end upto part front size new (rows, so_far, is) up within page split grown = (
    rows ++ front,
    more_so_far tells from to limit next end upto rows part front so_far up within page split,
    grown rows is,
  )

pub later_sized : (tells also : Key → Option Value → Type 0) → ((k : Key) (o : Option Value) → tells k o → also k o)
    → (from to next : Key) (size : Size) → IsSoFar tells from to next size → IsSoFar also from to next size
later_sized tells also later from to next size (rows, so_far, is) =
    (rows, later_so_far tells also later from to next rows so_far, is)

-- ---- ranges

module _ (bounds : List Key) (known : History) (run : IsWorldRun bounds known) (at : ℕ) where
  pub sized_upto : (from to : Key) (size : Size) → IsSizeOf (is_between from to) (SeesOn bounds known at) size
      → HasSize known at (Some from) (Some to) size
  sized_upto from to size (rows, all, is) =
      (rows, range_upto bounds known at (SeenAt known at) (seen_now bounds known run at) from to rows all, is)

  -- with what stands at the greatest key
  pub sized_with_top : (old : History) → Begins old known → (from top : Key) → top ≡ greatest → (size new : Size)
      → IsSizeOf (is_between from top) (SeesOn bounds old at) size → IsTrue (key_le from top)
      → (found : Option Value) → SeenAt known at top found
      → ((rows : List KeyValue) → size ≡ size_of rows → new ≡ size_of (rows ++ row_of top found))
      → HasSize known at (Some from) None new
  sized_with_top old begins from top same size new (rows, all, is) upto found seen grown = (
    rows ++ row_of top found,
    range_with_top bounds known at (SeenAt known at) (seen_now bounds known run at) old begins from top same
        rows all upto found seen,
    grown rows is,
  )

-- a range that begins above the greatest key holds nothing
pub sized_above : (tells : Key → Option Value → Type 0) (known : History) (at : ℕ) (from top : Key) → top ≡ greatest
    → IsTrue (key_lt top from) → (size : Size) → IsSizeOf (is_between from top) tells size
    → HasSize known at (Some from) None size
sized_above tells known at from top same above size (rows, all, is) =
    (rows, range_above tells (SeenAt known at) from top same above rows all, is)
