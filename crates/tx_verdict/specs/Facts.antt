-- What a fact says of a recording.
use Rattle.std.specs.Prelude.{◌≡◌, ◌≢◌, ℕ, ◌<◌, ◌≤◌, Bool, true, false, IsTrue, List, ◌++◌, length, Contains, Option, Some, None, slice_index, slice_index_or}
use Rattle.tx_recording.specs.declared.recording.Act.TheVariants.{Write}
use Rattle.tx_recording.specs.declared.recording.RecordedOutcome.TheVariants.{Fail}
use Rattle.tx_recording.specs.declared.recording.RecordedOp.{RecordedOp}
use Rattle.tx_recording.specs.declared.recording.Recording.{Recording}
use Rattle.tx_recording.specs.Recordings.{transaction_at, ops_of}
use Rattle.tx_recording.specs.Explanations.{after, op_at, IsPut}
use Rattle.tx_views.specs.declared.effect.Effect.{Effect}
use Rattle.tx_views.specs.Views.{Saw, IsInternal, left_by}
use Rattle.tx_verdict.specs.declared.verdict.Fact.{Fact}
use Rattle.tx_verdict.specs.declared.verdict.Rule.{Rule}
use Rattle.tx_verdict.specs.declared.verdict.Rule.TheVariants.{G1a, G1b, Internal, Unrepeatable, Unwritten, Duplicate, IncompatibleOrder, LostUpdate}

-- t saw the value in the key
abbrev pub SawValue : Recording → ℕ → ℕ → ℕ → Type 0
SawValue r t k v = (xs : List ℕ) × Saw r t k xs × Contains xs v

-- u puts the value
abbrev pub IsPutBy : Recording → ℕ → ℕ → Type 0
IsPutBy r u v = (l : ℕ) × IsPut r u l v

-- in no way the value at i is part of what u leaves in the key
abbrev pub IsTorn : Recording → ℕ → ℕ → List ℕ → ℕ → Type 0
IsTorn r u k xs i = (front rest : List ℕ) → xs ≡ after (ops_of r u) k front ++ rest → length front ≤ i
    → i < length (after (ops_of r u) k front) → ⊥

-- Of what t saw in k: a value that u put and that failed; one that u put, and not as u left it; a
-- read that no state explains, or a value that t puts itself; two reads that differ; a value that
-- nobody put; one that is there twice; one where u saw another one; what u saw as well, though both
-- put something there.
abbrev pub IsRule : Recording → Rule → ℕ → ℕ → Option ℕ → Option ℕ → Type 0
IsRule r G1a t k (Some v) (Some u) = SawValue r t k v × IsPutBy r u v × ((transaction_at r u).outcome ≡ Fail)
IsRule r G1b t k (Some v) (Some u) = (xs : List ℕ) × (i : ℕ) × Saw r t k xs × (i < length xs) × (slice_index xs i ≡ v)
    × IsPutBy r u v × IsTorn r u k xs i
IsRule r Internal t k None None = (p : ℕ) × IsInternal r t p × ((op_at r t p).key ≡ k)
IsRule r Internal t k (Some v) None = SawValue r t k v × IsPutBy r t v
IsRule r Unrepeatable t k None None = (xs : List ℕ) × (ys : List ℕ) × Saw r t k xs × Saw r t k ys × (xs ≢ ys)
IsRule r Unwritten t k (Some v) None = SawValue r t k v × ((u : ℕ) → IsPutBy r u v → ⊥)
IsRule r Duplicate t k (Some v) None = (xs : List ℕ) × (i : ℕ) × (j : ℕ) × Saw r t k xs × (i < j) × (j < length xs)
    × (slice_index xs i ≡ v) × (slice_index xs j ≡ v)
IsRule r IncompatibleOrder t k (Some v) (Some u) = (xs : List ℕ) × (ys : List ℕ) × (i : ℕ) × Saw r t k xs × Saw r u k ys
    × (i < length xs) × (i < length ys) × (slice_index xs i ≡ v) × (slice_index ys i ≢ v)
IsRule r LostUpdate t k None (Some u) = (xs : List ℕ) × Saw r t k xs × Saw r u k xs × (t ≢ u)
    × ((v : ℕ) × IsPut r t k v) × ((v : ℕ) × IsPut r u k v)
IsRule r _ t k _ _ = ⊥

abbrev pub IsFact : Recording → Fact → Type 0
IsFact r f = IsRule r f.rule f.txn f.key f.value f.by

-- the key is a register: an operation writes into it in place of what was there
abbrev pub IsWritten : Recording → ℕ → Type 0
IsWritten r k = (o : RecordedOp) × Contains r.ops.items o × (o.key ≡ k) × ((v : ℕ) × (o.act ≡ Write v))

-- the key holds a list: no operation does
abbrev pub HoldsList : Recording → ℕ → Type 0
HoldsList r k = IsWritten r k → ⊥

-- by key, whether it holds a list
pub record AreLists (r : Recording) (lists : List Bool) : Type 0 where
  pub keys : length lists ≡ r.keys
  pub holds : (k : ℕ) → IsTrue (slice_index_or lists k false) → HoldsList r k
  pub others : (k : ℕ) → k < r.keys → slice_index_or lists k true ≡ false → IsWritten r k

-- each value is at one place
abbrev pub IsDistinct : List ℕ → Type 0
IsDistinct xs = (i j : ℕ) → i < length xs → j < length xs → slice_index xs i ≡ slice_index xs j → i ≡ j

-- by an effect: in no way the value at i is part of what it leaves
abbrev pub IsTornBy : List ℕ → Effect → ℕ → Type 0
IsTornBy xs f i = (front rest : List ℕ) → xs ≡ left_by f front ++ rest → length front ≤ i
    → i < length (left_by f front) → ⊥
