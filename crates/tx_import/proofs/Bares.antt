-- Which values were read, and one more of a row.
use Rattle.std.proofs.Common.{◌≡◌, ◌⊎◌, ℕ, ◌+◌, ◌^◌, ◌<◌, ◌≤◌, Bool, true, false, List, [], ◌∷◌, ◌++◌, length, get_or, Contains, All, arith, inl, inr, ap, ◌∙◌, subst, sym, Vec, Global}
use Rattle.std.specs.Prelude.{slice_set}
use Rattle.std.proofs.lemmas.Bool.{cases_eq}
use Rattle.std.proofs.lemmas.List.{get_or_default, get_or-set_same, get_or-set_other, get_or_push, get_or_append_left, length_push}
use Rattle.std.proofs.lemmas.List.Elements.{All-weaker}
use Rattle.tx_recording.specs.declared.recording.Act.{Act}
use Rattle.tx_recording.specs.declared.recording.Act.TheVariants.{Append, Write, Read}
use Rattle.tx_recording.specs.declared.recording.RecordedOp.{RecordedOp}
use Rattle.tx_recording.specs.declared.recording.RecordedTransaction.{RecordedTransaction}
use Rattle.tx_recording.specs.declared.recording.Recording.{Recording}
use Rattle.tx_recording.specs.Recordings.{IsRecording, IsTransactionOf, IsActOf, IsOpOf, txns_of, transaction_at, no_transaction}
use Rattle.tx_import.specs.Numbers.{AreInTurn}
use Rattle.tx_import.specs.Recorders.{AreMarked, AreBare, IsBare, IsUnread, emptied}

-- what holds below a number and of it holds below the next
pub below_more : (P : ℕ → Type 0) (n : ℕ) → ((i : ℕ) → i < n → P i) → P n → (i : ℕ) → i < n + 1 → P i
below_more P n old new i lt = elim (cases_eq i n) [
  | inl same ↦ subst P (sym same) new
  | inr ne ↦ old i (omega (arith, lt, ne))
]

-- each of a list, by its place
pub each_by_place : {X : Type 0} (P : X → Type 0) (xs : List X) (d : X) → ((i : ℕ) → i < length xs → P (get_or xs i d))
    → (x : X) → Contains xs x → P x
each_by_place P xs d all x (i, lt, is) = subst P (get_or_default xs i d x lt ∙ is) (all i lt)

-- the first so many are marked
abbrev pub AreMarkedTo : List ℕ → List Bool → ℕ → Type 0
AreMarkedTo elements read n = (j : ℕ) → j < n → get_or read (get_or elements j 0) false ≡ true

pub marked_more : (elements : List ℕ) (read : List Bool) (i v : ℕ) → v < length read → v ≡ get_or elements i 0
    → AreMarkedTo elements read i → AreMarkedTo elements (slice_set read v true) (i + 1)
marked_more elements read i v within is old j lt = elim (cases_eq (get_or elements j 0) v) [
  | inl same ↦ ap (λ q. get_or (slice_set read v true) q false) same ∙ get_or-set_same read v true false within
  | inr ne ↦ get_or-set_other read v (get_or elements j 0) true false ne
      ∙ old j (before j lt (λ e. ne (ap (λ q. get_or elements q 0) e ∙ sym is)))
]
  where
    before : (j : ℕ) → j < i + 1 → (j ≡ i → ⊥) → j < i
    before j lt ne = omega (arith, lt, ne)

pub all_marked : (elements : List ℕ) (read : List Bool) → AreMarkedTo elements read (length elements)
    → AreMarked elements read
all_marked elements read marked v there = each_by_place (λ q. get_or read q false ≡ true) elements 0 marked v there

-- one more transaction
pub bare_more : (r : Recording) (ts new : List RecordedTransaction) (n : ℕ) (b : RecordedTransaction)
    → new ≡ ts ++ b ∷ []
    → ((b ≡ transaction_at r n) ⊎ (IsUnread r n × (b ≡ emptied (transaction_at r n)))) → AreBare r ts n
    → AreBare r new (n + 1)
bare_more r ts new n b is one (count, old) =
    let Q : ℕ → RecordedTransaction → Type 0 = λ t q. (q ≡ transaction_at r t)
    ⊎ (IsUnread r t × (q ≡ emptied (transaction_at r t))) in
    let P : ℕ → Type 0 = λ t. Q t (get_or (ts ++ b ∷ []) t no_transaction) in
    let last : get_or (ts ++ b ∷ []) n no_transaction ≡ b = get_or_push ts b no_transaction n count in
    let more : length (ts ++ b ∷ []) ≡ n + 1 = length_push ts b ∙ ap (λ q. q + 1) count in
    subst (λ q. AreBare r q (n + 1)) (sym is) (
      more,
      below_more P n
          (λ t lt. subst (Q t) (sym (get_or_append_left ts (b ∷ []) no_transaction t (omega (arith, lt, count))))
          (old t lt))
          (subst (Q n) (sym last) one),
    )

act_same : (r b : Recording) → b.values ≡ r.values → b.elements ≡ r.elements → (a : Act) → IsActOf r a → IsActOf b a
act_same r b values elements (Append v) is = subst (λ q. v < q) (sym values) is
act_same r b values elements (Write v) is = subst (λ q. v < q) (sym values) is
act_same r b values elements (Read span) is =
    subst (λ (q : Vec ℕ Global). span.first + span.count ≤ length q.items) (sym elements) is

ranged : (r : Recording) (t : RecordedTransaction) (n : ℕ) → IsRecording r → n < txns_of r
    → ((t ≡ transaction_at r n) ⊎ (IsUnread r n × (t ≡ emptied (transaction_at r n))))
    → IsTransactionOf (length r.ops.items) t
ranged r t n is lt (inl same) =
    subst (λ (q : RecordedTransaction). IsTransactionOf (length r.ops.items) q)
    (sym same) (is.transactions n no_transaction lt)
ranged r t n is lt (inr (unread, same)) =
    let old = is.transactions n no_transaction lt in
    let a = old.0 in
    let b = old.1 in
    subst (λ (q : RecordedTransaction). IsTransactionOf (length r.ops.items) q) (sym same)
    (omega arith, omega (arith, a, b))

-- it is a recording as well
pub bare_recording : (r b : Recording) → IsRecording r → IsBare r b → IsRecording b
bare_recording r b is bare = record {
  few = subst (λ q. q < 2 ^ 30) (sym bare.transactions.0) is.few;
  short = subst (λ (q : Vec RecordedOp Global). length q.items < 2 ^ 32) (sym bare.ops) is.short;
  transactions = λ k d lt. subst (λ q. IsTransactionOf q (get_or b.transactions.items k d))
      (ap (λ (q : Vec RecordedOp Global). length q.items) (sym bare.ops))
      (subst (λ (q : RecordedTransaction). IsTransactionOf (length r.ops.items) q)
      (get_or_default b.transactions.items k no_transaction d lt)
      (ranged r (get_or b.transactions.items k no_transaction) k is (subst (λ q. k < q) bare.transactions.0 lt)
      (bare.transactions.1 k (subst (λ q. k < q) bare.transactions.0 lt))));
  ops = subst (λ (q : Vec RecordedOp Global). All (IsOpOf b) q.items) (sym bare.ops) (All-weaker (IsOpOf r) (IsOpOf b)
      (λ o one. (subst (λ q. o.key < q) (sym bare.keys) one.0, act_same r b bare.values bare.elements o.act one.1))
      r.ops.items is.ops);
  elements = subst (λ q. All (λ v. v < q) b.elements.items) (sym bare.values)
      (subst (λ (q : Vec ℕ Global). All (λ v. v < r.values) q.items) (sym bare.elements) is.elements);
}

-- it begins where it began, and ends no later
at_most : (r : Recording) (t : RecordedTransaction) (n : ℕ) → IsRecording r → n < txns_of r
    → ((t ≡ transaction_at r n) ⊎ (IsUnread r n × (t ≡ emptied (transaction_at r n))))
    → (t.first ≡ (transaction_at r n).first) × (t.upto ≤ (transaction_at r n).upto)
at_most r t n is lt (inl same) =
    let upto = ap (λ (q : RecordedTransaction). q.upto) same in
    (ap (λ (q : RecordedTransaction). q.first) same, omega (arith, upto))
at_most r t n is lt (inr (unread, same)) =
    let old = is.transactions n no_transaction lt in
    let upto = ap (λ (q : RecordedTransaction). q.upto) same in
    (ap (λ (q : RecordedTransaction). q.first) same, omega (arith, upto, old.0))

-- the operations of each still stand behind those of the ones before it
pub bare_in_turn : (r b : Recording) → IsRecording r → IsBare r b → AreInTurn r.transactions.items
    → AreInTurn b.transactions.items
bare_in_turn r b is bare in_turn i j d lt within =
    let ts = b.transactions.items in
    let there : j < txns_of r = subst (λ q. j < q) bare.transactions.0 within in
    let before : i < txns_of r = omega (arith, lt, there) in
    let early : i < length ts = omega (arith, lt, within) in
    let one = at_most r (get_or ts i no_transaction) i is before (bare.transactions.1 i before) in
    let other = at_most r (get_or ts j no_transaction) j is there (bare.transactions.1 j there) in
    let apart : (transaction_at r i).upto ≤ (transaction_at r j).first = in_turn i j no_transaction lt there in
    let P : RecordedTransaction → RecordedTransaction → Type 0 = λ t u. t.upto ≤ u.first in
    subst (λ t. P t (get_or ts j d)) (get_or_default ts i no_transaction d early)
    (subst (λ u. P (get_or ts i no_transaction) u) (get_or_default ts j no_transaction d within)
    (omega (arith, one.1, other.0, apart)))
