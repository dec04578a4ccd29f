-- What reads say of what their transactions saw.
use Rattle.std.specs.Prelude.{◌≡◌, ◌⊎◌, ◌↔◌, ℕ, ◌+◌, ◌<◌, ◌≤◌, cond, List, ◌++◌, length, Contains, take}
use Rattle.tx_recording.specs.declared.recording.RecordedOutcome.TheVariants.{Ok}
use Rattle.tx_recording.specs.declared.recording.Span.{Span}
use Rattle.tx_recording.specs.declared.recording.RecordedOp.{RecordedOp}
use Rattle.tx_recording.specs.declared.recording.Act.TheVariants.{Read}
use Rattle.tx_recording.specs.declared.recording.Recording.{Recording}
use Rattle.tx_recording.specs.Recordings.{txns_of, transaction_at, ops_of, list_of}
use Rattle.tx_recording.specs.Explanations.{after, op_at}
use Rattle.tx_views.specs.declared.effect.Effect.{Effect}
use Rattle.tx_views.specs.declared.view.Seen.{Seen}
use Rattle.tx_views.specs.declared.view.Seen.TheVariants.{Base, Own, Wrong}
use Rattle.tx_views.specs.declared.view.RecordedView.{RecordedView}
use Rattle.tx_views.specs.declared.view.Viewed.{Viewed}
use Rattle.tx_views.specs.declared.view.Viewed.TheVariants.{Views, Internal}

-- what an effect leaves
abbrev pub left_by : Effect → List ℕ → List ℕ
left_by e xs = cond e.clears e.values.items (xs ++ e.values.items)

-- it leaves what the operations do
abbrev pub IsEffect : List RecordedOp → ℕ → Effect → Type 0
IsEffect os k e = (xs : List ℕ) → after os k xs ≡ left_by e xs

-- what a list that was read behind these operations says of what the key held before them: it held
-- this and nothing else, anything, or there is nothing that it can have held
abbrev pub IsSeen : Recording → List RecordedOp → ℕ → Span → Seen → Type 0
IsSeen r os k span (Base b) = (b.first + b.count ≤ length r.elements.items)
    × ((xs : List ℕ) → (list_of r span ≡ after os k xs) ↔ (xs ≡ list_of r b))
IsSeen r os k span Own = (xs : List ℕ) → list_of r span ≡ after os k xs
IsSeen r os k span Wrong = (xs : List ℕ) → list_of r span ≡ after os k xs → ⊥

-- a read by the transaction at that place
abbrev pub IsReadAt : Recording → ℕ → ℕ → Span → Type 0
IsReadAt r t p span = ((transaction_at r t).outcome ≡ Ok) × ((op_at r t p).act ≡ Read span)

-- a read of the transaction is what its operations before make of these values in the key, and of
-- no others: that is what it saw there
abbrev pub Saw : Recording → ℕ → ℕ → List ℕ → Type 0
Saw r t k xs = (p : ℕ) × (span : Span) × IsReadAt r t p span × ((op_at r t p).key ≡ k)
    × ((ys : List ℕ) → (list_of r span ≡ after (take p (ops_of r t)) k ys) ↔ (ys ≡ xs))

-- a read of the transaction says that it saw just this in the key
abbrev pub IsViewOf : Recording → RecordedView → Type 0
IsViewOf r v = (v.span.first + v.span.count ≤ length r.elements.items) × Saw r v.txn v.key (list_of r v.span)

-- the read at that place is of own values alone, or it is as it should be where what one of these
-- views says was seen
abbrev pub IsAnswered : Recording → List RecordedView → ℕ → ℕ → Type 0
IsAnswered r views t p = (span : Span) → (op_at r t p).act ≡ Read span
    → ((xs : List ℕ) → list_of r span ≡ after (take p (ops_of r t)) (op_at r t p).key xs)
    ⊎ ((v : RecordedView) × Contains views v × (v.txn ≡ t) × (v.key ≡ (op_at r t p).key)
    × (list_of r span ≡ after (take p (ops_of r t)) (op_at r t p).key (list_of r v.span)))

-- these views are what the reads of the recording say, and all of it
pub record AreViews (r : Recording) (views : List RecordedView) : Type 0 where
  pub only : (v : RecordedView) → Contains views v → IsViewOf r v
  pub all : (t p : ℕ) → t < txns_of r → (transaction_at r t).outcome ≡ Ok → p < length (ops_of r t)
      → IsAnswered r views t p

-- the read of that transaction at that place is nothing that it can have seen
abbrev pub IsInternal : Recording → ℕ → ℕ → Type 0
IsInternal r t p = (span : Span) × IsReadAt r t p span
    × ((xs : List ℕ) → list_of r span ≡ after (take p (ops_of r t)) (op_at r t p).key xs → ⊥)

abbrev pub IsViewed : Recording → Viewed → Type 0
IsViewed r (Views views) = AreViews r views.items
IsViewed r (Internal t p) = IsInternal r t p
