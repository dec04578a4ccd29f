-- Which runs of the machine a recording may be of.
use Rattle.std.specs.Prelude.{◌≡◌, ◌≢◌, ℕ, ◌<◌, ◌≤◌, false, List, [], ◌∷◌, Option, Some, None, IsTrue, take}
use Rattle.tx_types.specs.declared.key.Key.{Key}
use Rattle.tx_types.specs.declared.value.Value.{Value}
use Rattle.tx_types.specs.declared.mutation.Mutation.{Mutation}
use Rattle.tx_types.specs.declared.mutation.Mutation.TheVariants.{Put}
use Rattle.tx_types.specs.Keys.{IsVisible}
use Rattle.tx_machine.specs.Machine.{Rows, Commits, Sees}
use Rattle.tx_recording.specs.declared.recording.RecordedOutcome.TheVariants.{Ok, Fail}
use Rattle.tx_recording.specs.declared.recording.Span.{Span}
use Rattle.tx_recording.specs.declared.recording.Act.TheVariants.{Read}
use Rattle.tx_recording.specs.declared.recording.Orders.{Orders}
use Rattle.tx_recording.specs.declared.recording.Recording.{Recording}
use Rattle.tx_recording.specs.Recordings.{txns_of, transaction_at, ops_of, list_of}
use Rattle.tx_recording.specs.Explanations.{after, op_at, Explanation, IsWriter, Precedes}

-- the value that stands for a list: none for no values
abbrev pub value_of : (List ℕ → Value) → List ℕ → Option Value
value_of value [] = None
value_of value (v ∷ vs) = Some (value (v ∷ vs))

-- The committed rows are those of the recorded transactions under these timestamps, each key's list
-- told by a value of its own. Each writer put what it left, and nothing else was put or deleted on
-- the keys; each writer has its own start; what a writer started from, and what was read, is what
-- the machine shows at the start; what is known of commits and of orders holds.
pub record IsRecordingOf (r : Recording) (orders : Orders) (x : Explanation) (rows : Rows) (key : ℕ → Key)
    (value : List ℕ → Value) : Type 0 where
  pub ok : (t : ℕ) → t < txns_of r → (transaction_at r t).outcome ≡ Ok → IsTrue (x.committed t)
  pub fail : (t : ℕ) → (transaction_at r t).outcome ≡ Fail → x.committed t ≡ false
  pub ends : (t : ℕ) → IsTrue (x.committed t) → x.start t < x.commit t
  pub commits : (k t : ℕ) → IsWriter r x t k
      → Commits rows (key k) (x.start t) (x.commit t) (Put (value (x.left t k)))
  pub only : (k u c : ℕ) (m : Mutation) → Commits rows (key k) u c m → IsVisible m
      → (t : ℕ) × IsWriter r x t k × (c ≡ x.commit t) × (m ≡ Put (value (x.left t k)))
  pub own : (xs ys : List ℕ) → value xs ≡ value ys → xs ≡ ys
  pub apart : (k t u : ℕ) → IsWriter r x t k → IsWriter r x u k → t ≢ u → x.start t ≢ x.start u
  pub leaves : (k t : ℕ) → IsWriter r x t k → (xs : List ℕ) × Sees rows (key k) (x.start t) (value_of value xs)
      × (x.left t k ≡ after (ops_of r t) k xs)
  pub reads : (t p : ℕ) (span : Span) → (transaction_at r t).outcome ≡ Ok → (op_at r t p).act ≡ Read span
      → (xs : List ℕ) × Sees rows (key (op_at r t p).key) (x.start t) (value_of value xs)
      × (list_of r span ≡ after (take p (ops_of r t)) (op_at r t p).key xs)
  pub precedes : (t u : ℕ) → Precedes r orders t u → IsTrue (x.committed t) → IsTrue (x.committed u)
      → x.commit t ≤ x.start u
