-- One owner more in a table.
use Rattle.std.proofs.Common.{◌≡◌, ◌⊎◌, ℕ, ◌+◌, ◌-◌, ◌<◌, ◌≤◌, List, length, set, get_or, drop, take, slice_range, zero, suc, arith, inl, inr, refl, sym, ap, ◌∙◌, subst, Option, Some, None}
use Rattle.std.proofs.lemmas.Bool.{cases_eq, cases_lt}
use Rattle.std.proofs.lemmas.List.{get_or-set_same, get_or-set_other, get_or_default, get_or_past}
use Rattle.std.proofs.lemmas.List.Elements.{All-get_or, All-take, All-drop}
use Rattle.tx_recording.specs.declared.recording.Recording.{Recording}
use Rattle.tx_recording.specs.declared.recording.Act.TheVariants.{Append, Write, Read}
use Rattle.tx_recording.specs.declared.recording.Act.{Act}
use Rattle.tx_recording.specs.Recordings.{IsRecording, IsOpOf, IsActOf, ops_of, txns_of, transaction_at, no_transaction, no_op}
use Rattle.tx_recording.specs.declared.recording.RecordedOp.{RecordedOp}
use Rattle.tx_recording.specs.declared.recording.RecordedTransaction.{RecordedTransaction}
use Rattle.tx_recording.specs.Explanations.{Puts, op_at, IsPut, ArePutOnce}
use Rattle.tx_views.specs.declared.owner.Owner.{Owner}
use Rattle.tx_views.specs.Owners.{IsOwnerOf, IsEarly, Notes, KeepsOwners, AreOwners, owner_at}

some_none : (o : Owner) → None ≡ Some o → ⊥
some_none o e = grind (arith, e)

-- an act puts one value
pub puts_one : (a : Act) (v w : ℕ) → Puts a v → Puts a w → v ≡ w
puts_one (Append x) v w p q = sym p ∙ q
puts_one (Write x) v w p q = sym p ∙ q
puts_one (Read s) v w p q = absurd p

pub kept_set : (old table : List (Option Owner)) (value : ℕ) (o : Owner) → owner_at table value ≡ None
    → KeepsOwners old table
    → KeepsOwners old (set table value (Some o))
kept_set old table value o none kept v q is = elim (cases_eq v value) [
  | inl same ↦ absurd (some_none q (sym none ∙ ap (λ z. owner_at table z) (sym same) ∙ kept v q is))
  | inr other ↦ get_or-set_other table value v (Some o) None other ∙ kept v q is
]

pub notes_set : (r : Recording) (table : List (Option Owner)) (t place value : ℕ) → value < length table
    → owner_at table value ≡ None → Puts (op_at r t place).act value → Notes r table t place
    → Notes r (set table value (Some record { txn = t; place = place })) t (place + 1)
notes_set r table t place value within none put noted p v lt puts = elim (cases_eq p place) [
  | inl same ↦ (
      let P : ℕ → Type 0 = λ z. Puts (op_at r t z).act v in
      let e : v ≡ value = puts_one (op_at r t place).act v value (subst P same puts) put in
      let Q : ℕ → Type 0 = λ z. owner_at (set table value (Some record { txn = t; place = place })) z
      ≡ Some record { txn = t; place = p } in
      let R : ℕ → Type 0 = λ z. owner_at (set table value (Some record { txn = t; place = place })) value
      ≡ Some record { txn = t; place = z } in
      subst Q (sym e) (subst R (sym same)
      (get_or-set_same table value (Some record { txn = t; place = place }) None within))
      )
  | inr ne ↦ kept_set table table value record { txn = t; place = place } none
      (λ z o is. is) v record { txn = t; place = p }
      (noted p v (omega (arith, lt, ne)) puts)
]

-- no value of a read is noted
pub notes_more : (r : Recording) (table : List (Option Owner)) (t place : ℕ)
    → ((v : ℕ) → Puts (op_at r t place).act v → ⊥) → Notes r table t place → Notes r table t (place + 1)
notes_more r table t place none noted p v lt puts = elim (cases_eq p place) [
  | inl same ↦ absurd (let P : ℕ → Type 0 = λ z. Puts (op_at r t z).act v in none v (subst P same puts))
  | inr ne ↦ noted p v (omega (arith, lt, ne)) puts
]

pub only_set : (r : Recording) (table : List (Option Owner)) (value : ℕ) (o : Owner) → value < length table
    → IsOwnerOf r value o
    → ((v : ℕ) (q : Owner) → owner_at table v ≡ Some q → IsOwnerOf r v q)
    → (v : ℕ) (q : Owner) → owner_at (set table value (Some o)) v ≡ Some q → IsOwnerOf r v q
only_set r table value o within owns only v q is = elim (cases_eq v value) [
  | inl same ↦ (
      let P : ℕ → Type 0 = λ z. owner_at (set table value (Some o)) z ≡ Some q in
      let e : Some o ≡ Some q = sym (get_or-set_same table value (Some o) None within) ∙ subst P same is in
      let at : o ≡ q = grind (arith, e) in
      let Q : ℕ → Type 0 = λ z. IsOwnerOf r z q in
      subst Q (sym same) (subst (λ (z : Owner). IsOwnerOf r value z) at owns)
      )
  | inr other ↦ only v q (sym (get_or-set_other table value v (Some o) None other) ∙ is)
]

-- of n + 1 transactions, where the table keeps what it had of the first n
pub all_more : (r : Recording) (old new : List (Option Owner)) (n : ℕ)
    → ((t : ℕ) → t < n → Notes r old t (length (ops_of r t))) → KeepsOwners old new
    → Notes r new n (length (ops_of r n))
    → (t : ℕ) → t < n + 1 → Notes r new t (length (ops_of r t))
all_more r old new n all kept last t lt = elim (cases_eq t n) [
  | inl same ↦ (let P : ℕ → Type 0 = λ z. Notes r new z (length (ops_of r z)) in subst P (sym same) last)
  | inr ne ↦ (λ p v within puts. kept v record { txn = t; place = p } (all t (omega (arith, lt, ne)) p v within puts))
]

pub early_more : (t place : ℕ) (o : Owner) → IsEarly t place o → IsEarly t (place + 1) o
early_more t place o (inl lt) = inl lt
early_more t place o (inr (same, lt)) = inr (same, omega (arith, lt))

pub early_end : (t place : ℕ) (o : Owner) → IsEarly t place o → o.txn < t + 1
early_end t place o (inl lt) = omega (arith, lt)
early_end t place o (inr (same, lt)) = omega (arith, same)

pub early_set : (table : List (Option Owner)) (t place value : ℕ) → value < length table
    → ((v : ℕ) (o : Owner) → owner_at table v ≡ Some o → IsEarly t place o)
    → (v : ℕ) (o : Owner) → owner_at (set table value (Some record { txn = t; place = place })) v ≡ Some o
    → IsEarly t (place + 1) o
early_set table t place value within early v o is = elim (cases_eq v value) [
  | inl same ↦ (
      let P : ℕ → Type 0 = λ z. owner_at (set table value (Some record { txn = t; place = place })) z ≡ Some o in
      let e : Some record { txn = t; place = place } ≡ Some o =
      sym (get_or-set_same table value (Some record { txn = t; place = place }) None within) ∙ subst P same is in
      let at : record { txn = t; place = place } ≡ o = grind (arith, e) in
      let Q : Owner → Type 0 = λ z. IsEarly t (place + 1) z in
      subst Q at (inr (refl, omega arith))
      )
  | inr other ↦ early_more t place o
      (early v o (sym (get_or-set_other table value v (Some record { txn = t; place = place }) None other) ∙ is))
]

act_below : (r : Recording) (a : Act) (v : ℕ) → IsActOf r a → Puts a v → v < r.values
act_below r (Append w) v lt same = subst (λ q. q < r.values) same lt
act_below r (Write w) v lt same = subst (λ q. q < r.values) same lt
act_below r (Read s) v lt none = absurd none

-- what an operation of a transaction names is there
pub op_is : (r : Recording) (t p : ℕ) → IsRecording r → p < length (ops_of r t) → IsOpOf r (op_at r t p)
op_is r t p is lt =
    let first = (transaction_at r t).first in
    let upto = (transaction_at r t).upto in
    All-get_or (IsOpOf r) (ops_of r t) p no_op lt
    (All-take (IsOpOf r) (upto - first) (drop first r.ops.items) (All-drop (IsOpOf r) first r.ops.items is.ops))

pub value_below : (r : Recording) (t p v : ℕ) → IsRecording r → p < length (ops_of r t) → Puts (op_at r t p).act v
    → v < r.values
value_below r t p v is lt puts = act_below r (op_at r t p).act v (op_is r t p is lt).1 puts

-- there are no operations past the last transaction
one_of : (r : Recording) (t p : ℕ) → p < length (ops_of r t) → t < txns_of r
one_of r t p lt = elim (cases_lt t (txns_of r)) [
  | inl below ↦ below
  | inr past ↦ absurd (
      let e = ap (λ (q : RecordedTransaction). length (slice_range r.ops.items q.first q.upto))
      (get_or_past r.transactions.items t no_transaction past) in
      omega (arith, lt, e)
      )
]

-- each value is put by one transaction
pub put_by_owner : (r : Recording) (table : List (Option Owner)) (t k v : ℕ) → AreOwners r table → IsPut r t k v
    → (p : ℕ) × (owner_at table v ≡ Some record { txn = t; place = p })
put_by_owner r table t k v owners (o, (p, lt, is), of_key, puts) =
    let same : op_at r t p ≡ o = get_or_default (ops_of r t) p no_op o lt ∙ is in
    let P : RecordedOp → Type 0 = λ q. Puts q.act v in
    (p, owners.all t (one_of r t p lt) p v lt (subst P (sym same) puts))

pub put_once : (r : Recording) (table : List (Option Owner)) → AreOwners r table → ArePutOnce r
put_once r table owners t u k l v a b =
    let (p, at) = put_by_owner r table t k v owners a in
    let (q, also) = put_by_owner r table u l v owners b in
    let e : Some record { txn = t; place = p } ≡ Some record { txn = u; place = q } = sym at ∙ also in
    let same : record { txn = t; place = p } ≡ record { txn = u; place = q } = grind (arith, e) in
    ap (λ (o : Owner). o.txn) same

-- an operation among those of a transaction
pub own_op : (r : Recording) (ops : List RecordedOp) (t p v : ℕ) → ops ≡ ops_of r t → p < length ops
    → Puts (get_or ops p no_op).act v
    → (p < length (ops_of r t)) × Puts (op_at r t p).act v
own_op r ops t p v is lt puts =
    let P : List RecordedOp → Type 0 = λ q. (p < length q) × Puts (get_or q p no_op).act v in
    subst P is (lt, puts)
