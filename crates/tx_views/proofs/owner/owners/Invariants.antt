-- The owners of the values of the transactions so far.
use Rattle.std.proofs.Common.{◌≡◌, ℕ, ◌<◌, length, Some}
use Rattle.tx_recording.specs.Recordings.{ops_of}
use Rattle.tx_views.specs.declared.owner.Owner.{Owner}
use Rattle.tx_views.specs.Owners.{IsOwnerOf, Notes, owner_at}
use Rattle.tx_views.proofs.owner.owners.Given as goal

abbrev pub invariant-loop-txn : goal.invariant-loop-txn
invariant-loop-txn l = record {
  each : length l.table.items ≡ l.recording.values;
  all : (t : ℕ) → t < l.txn → Notes l.recording l.table.items t (length (ops_of l.recording t));
  early : (v : ℕ) (o : Owner) → owner_at l.table.items v ≡ Some o → o.txn < l.txn;
  only : (v : ℕ) (o : Owner) → owner_at l.table.items v ≡ Some o → IsOwnerOf l.recording v o;
}
