-- What is left of the first of some transactions, one by one.
use Rattle.std.proofs.Common.{◌≡◌, ℕ, zero, suc, ◌+◌, ◌-◌, ◌^◌, ◌<◌, ◌≤◌, inl, inr, Bool, true, false, List, [], ◌∷◌, ◌++◌, All, length, take, drop, get_or, slice_range, refl, sym, ap, subst, ◌∙◌, length-append, length-drop, arith}
use Rattle.std.specs.List.{AllPairs}
use Rattle.std.proofs.lemmas.Bool.{cases_lt}
use Rattle.std.proofs.lemmas.List.{get_or_append_left, get_or_push, length_push, drop-append-le, take-append-le}
use Rattle.std.proofs.lemmas.List.Elements.{All-from_get_or, All-weaker, All-append, All-take, All-drop, All-filter, All-nil}
use Rattle.std.proofs.lemmas.List.Sums.{length-filter, count_by-le-length}
use Rattle.std.proofs.Math.Seq.{drop-append_seam, take-length}
use Rattle.tx_recording.specs.declared.recording.RecordedTransaction.{RecordedTransaction}
use Rattle.tx_recording.specs.declared.recording.Act.{Act}
use Rattle.tx_recording.specs.declared.recording.Act.TheVariants.{Append, Write, Read}
use Rattle.tx_recording.specs.declared.recording.RecordedOp.{RecordedOp}
use Rattle.tx_recording.specs.declared.recording.Recording.{Recording}
use Rattle.tx_recording.specs.Recordings.{IsRecording, IsTransactionOf, IsActOf, IsOpOf, no_transaction, transaction_at, txns_of, ops_of}
use Rattle.tx_onward.specs.Left.{is_put, without, moved, IsLeft}

-- ---- operations without reads

-- they are no more
pub length_without : (b : Bool) (os : List RecordedOp) → length (without b os) ≤ length os
length_without true os =
    let same = length-filter (λ (o : RecordedOp). is_put o.act) os in
    let few = count_by-le-length (λ (o : RecordedOp). is_put o.act) os in omega (arith, same, few)
length_without false os = omega arith

-- what holds of each of them still does
without_all : (P : RecordedOp → Type 0) (b : Bool) (os : List RecordedOp) → All P os → All P (without b os)
without_all P true os h = All-filter (λ (o : RecordedOp). is_put o.act) P os h
without_all P false os h = h

-- ---- parts of lists

length_range : (os : List RecordedOp) (a b : ℕ) → a ≤ b → b ≤ length os → length (slice_range os a b) ≤ b - a
length_range os a b le within = omega (arith, length_take (b - a) (drop a os))
  where
    length_take : (n : ℕ) (xs : List RecordedOp) → length (take n xs) ≤ n
    length_take zero xs = omega arith
    length_take (suc n) [] = omega arith
    length_take (suc n) (x ∷ xs) = let rest = length_take n xs in omega (arith, rest)

range_all : (P : RecordedOp → Type 0) (os : List RecordedOp) (a b : ℕ) → All P os → All P (slice_range os a b)
range_all P os a b h = All-take P (b - a) (drop a os) (All-drop P a os h)

-- a part stays as it is
range_stays : (os more : List RecordedOp) (a b : ℕ) → a ≤ b → b ≤ length os
    → slice_range (os ++ more) a b ≡ slice_range os a b
range_stays os more a b le within =
    let first : a ≤ length os = omega (arith, le, within) in
    let rest = length-drop a os in
    let short : b - a ≤ length (drop a os) = omega (arith, rest, le, within) in
    ap (take (b - a)) (drop-append-le a os more first) ∙ take-append-le (b - a) (drop a os) more short

-- the part that was added
range_added : (os more : List RecordedOp) → slice_range (os ++ more) (length os) (length (os ++ more)) ≡ more
range_added os more =
    let count = length-append os more in
    let n : length (os ++ more) - length os ≡ length more = omega (arith, count) in
    ap (λ k. take k (drop (length os) (os ++ more))) n ∙ ap (take (length more)) (drop-append_seam os more)
    ∙ take-length more

-- ---- the first so many transactions

-- how many operations a transaction leaves at most
pub few_left : (r : Recording) (b : Bool) (t : ℕ) → IsRecording r → t < txns_of r
    → (length (without b (ops_of r t)) + (transaction_at r t).first ≤ (transaction_at r t).upto)
    × ((transaction_at r t).upto ≤ length r.ops.items)
few_left r b t is lt =
    let q = transaction_at r t in
    let range : IsTransactionOf (length r.ops.items) q = is.transactions t no_transaction lt in
    let at_most = length_without b (ops_of r t) in
    let long = length_range r.ops.items q.first q.upto range.0 range.1 in
    (omega (arith, at_most, long, range.0), range.1)

-- they are the same, but that their operations stand elsewhere, without the reads of those that
-- were told of; and there is room for those of the next one
pub record IsLeftTo (r : Recording) (told : List Bool) (ts : List RecordedTransaction) (os : List RecordedOp)
    (n : ℕ) : Type 0 where
  pub count : length ts ≡ n
  pub same : (t : ℕ) → t < n → get_or ts t no_transaction
      ≡ moved (transaction_at r t) (get_or ts t no_transaction).first (get_or ts t no_transaction).upto
  pub kept : (t : ℕ) → t < n → slice_range os (get_or ts t no_transaction).first (get_or ts t no_transaction).upto
      ≡ without (get_or told t false) (ops_of r t)
  pub ranges : (t : ℕ) → t < n → IsTransactionOf (length os) (get_or ts t no_transaction)
  pub there : All (IsOpOf r) os
  pub room : n < txns_of r → length os ≤ (transaction_at r n).first
  pub short : length os ≤ length r.ops.items

-- before the first
pub none_left : (r : Recording) (told : List Bool) → IsLeftTo r told [] [] 0
none_left r told = record {
  count = refl;
  same = λ t h. absurd (omega arith);
  kept = λ t h. absurd (omega arith);
  ranges = λ t h. absurd (omega arith);
  there = All-nil (IsOpOf r);
  room = λ lt. omega arith;
  short = omega arith;
}

-- what holds below a number and of it holds below the next
below_more : (P : ℕ → Type 0) (n : ℕ) → ((i : ℕ) → i < n → P i) → P n → (i : ℕ) → i < n + 1 → P i
below_more P n old new i lt = elim (cases_lt i n) [
  | inl below ↦ old i below
  | inr le ↦
      let same : n ≡ i = omega (arith, le, lt) in subst P same new
]

module _ (r : Recording) (told : List Bool) (ts : List RecordedTransaction) (os : List RecordedOp) (n : ℕ)
    (more : List RecordedOp)
    (is : IsRecording r) (in_turn : AllPairs (λ (t u : RecordedTransaction). t.upto ≤ u.first) r.transactions.items)
    (lt : n < txns_of r) (l : IsLeftTo r told ts os n) (added : more ≡ without (get_or told n false) (ops_of r n)) where
  abbrev pub one : RecordedTransaction
  one = moved (transaction_at r n) (length os) (length (os ++ more))

  -- one of those before stands where it stood
  old_at : (t : ℕ) → t < n → get_or (ts ++ one ∷ []) t no_transaction ≡ get_or ts t no_transaction
  old_at t below =
      get_or_append_left ts (one ∷ []) no_transaction t (subst (λ m. t < m) (sym l.count) below)

  new_at : get_or (ts ++ one ∷ []) n no_transaction ≡ one
  new_at = get_or_push ts one no_transaction n l.count

  longer : length os ≤ length (os ++ more)
  longer = let count = length-append os more in omega (arith, count)

  abbrev IsKept : RecordedTransaction → ℕ → Type 0
  IsKept q t = slice_range (os ++ more) q.first q.upto ≡ without (get_or told t false) (ops_of r t)

  abbrev IsSame : RecordedTransaction → ℕ → Type 0
  IsSame q t = q ≡ moved (transaction_at r t) q.first q.upto

  more_same : (t : ℕ) → t < n + 1 → IsSame (get_or (ts ++ one ∷ []) t no_transaction) t
  more_same = below_more (λ t. IsSame (get_or (ts ++ one ∷ []) t no_transaction) t) n
      (λ t below. subst (λ q. IsSame q t) (sym (old_at t below)) (l.same t below))
      (subst (λ q. IsSame q n) (sym new_at) refl)

  more_kept : (t : ℕ) → t < n + 1 → IsKept (get_or (ts ++ one ∷ []) t no_transaction) t
  more_kept = below_more (λ t. IsKept (get_or (ts ++ one ∷ []) t no_transaction) t) n
      (λ t below. let range = l.ranges t below in
      subst (λ q. IsKept q t) (sym (old_at t below))
      (range_stays os more (get_or ts t no_transaction).first (get_or ts t no_transaction).upto range.0 range.1
      ∙ l.kept t below))
      (subst (λ q. IsKept q n) (sym new_at) (range_added os more ∙ added))

  more_ranges : (t : ℕ) → t < n + 1
      → IsTransactionOf (length (os ++ more)) (get_or (ts ++ one ∷ []) t no_transaction)
  more_ranges = below_more (λ t. IsTransactionOf (length (os ++ more)) (get_or (ts ++ one ∷ []) t no_transaction)) n
      (λ t below. let range = l.ranges t below in
      subst (λ q. IsTransactionOf (length (os ++ more)) q) (sym (old_at t below))
      (range.0, omega (arith, range.1, longer)))
      (subst (λ q. IsTransactionOf (length (os ++ more)) q) (sym new_at) (longer, omega arith))

  upto_here : length (os ++ more) ≤ (transaction_at r n).upto
  upto_here =
      let few = few_left r (get_or told n false) n is lt in
      let count = length-append os more in
      let long = ap length added in
      let room = l.room lt in omega (arith, few.0, count, long, room)

  -- one more
  pub one_more : IsLeftTo r told (ts ++ one ∷ []) (os ++ more) (n + 1)
  one_more = record {
    count = length_push ts one ∙ ap (λ m. m + 1) l.count;
    same = more_same;
    kept = more_kept;
    ranges = more_ranges;
    there = All-append (IsOpOf r) os more l.there (subst (λ xs. All (IsOpOf r) xs) (sym added)
        (without_all (IsOpOf r) (get_or told n false) (ops_of r n)
        (range_all (IsOpOf r) r.ops.items (transaction_at r n).first (transaction_at r n).upto is.ops)));
    room = λ next. let apart : (transaction_at r n).upto ≤ (transaction_at r (n + 1)).first =
        in_turn n (n + 1) no_transaction (omega arith) next in omega (arith, apart, upto_here);
    short = let few = few_left r (get_or told n false) n is lt in omega (arith, few.1, upto_here);
  }

-- ---- all of them

-- what is left, by its parts
pub left_is : (r left : Recording) (told : List Bool)
    → IsLeftTo r told left.transactions.items left.ops.items (txns_of r)
    → left.elements.items ≡ r.elements.items → left.keys ≡ r.keys → left.values ≡ r.values
    → IsLeft r (λ t. get_or told t false) left
left_is r left told l elements keys values = record {
  transactions = l.same;
  ops = l.kept;
  count = l.count;
  elements = elements;
  keys = keys;
  values = values;
}

act_left : (r left : Recording) → left.elements.items ≡ r.elements.items → left.values ≡ r.values
    → (a : Act) → IsActOf r a → IsActOf left a
act_left r left elements values (Append v) h = subst (λ n. v < n) (sym values) h
act_left r left elements values (Write v) h = subst (λ n. v < n) (sym values) h
act_left r left elements values (Read span) h =
    subst (λ xs. span.first + span.count ≤ length xs) (sym elements) h

-- what stands in it is there
pub recording_left : (r left : Recording) (told : List Bool)
    → IsLeftTo r told left.transactions.items left.ops.items (txns_of r)
    → left.elements.items ≡ r.elements.items → left.keys ≡ r.keys → left.values ≡ r.values
    → IsRecording r → IsRecording left
recording_left r left told l elements keys values is = record {
  few = subst (λ n. n < 2 ^ 30) (sym l.count) is.few;
  short = let short = l.short in omega (arith, short, is.short);
  transactions = All-from_get_or (IsTransactionOf (length left.ops.items)) left.transactions.items no_transaction
      (λ i h. l.ranges i (subst (λ n. i < n) l.count h));
  ops = All-weaker (IsOpOf r) (IsOpOf left) (λ o there.
      (subst (λ n. o.key < n) (sym keys) there.0, act_left r left elements values o.act there.1))
      left.ops.items l.there;
  elements = subst (λ n. All (λ v. v < n) left.elements.items) (sym values)
      (subst (λ xs. All (λ v. v < r.values) xs) (sym elements) is.elements);
}
