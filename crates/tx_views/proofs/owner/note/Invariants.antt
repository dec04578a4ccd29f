-- The owners of the values of the operations so far.
use Rattle.std.proofs.Common.{◌≡◌, ℕ, length, Some}
use Rattle.tx_views.specs.declared.owner.Owner.{Owner}
use Rattle.tx_views.specs.Owners.{IsOwnerOf, IsEarly, KeepsOwners, Notes, owner_at}
use Rattle.tx_views.proofs.owner.note.Given as goal

abbrev pub invariant-loop-place : goal.invariant-loop-place
invariant-loop-place l = record {
  each : length l.table.items ≡ length l.fn.table.items;
  early : (v : ℕ) (o : Owner) → owner_at l.table.items v ≡ Some o → IsEarly l.txn l.place o;
  kept : KeepsOwners l.fn.table.items l.table.items;
  noted : Notes l.recording l.table.items l.txn l.place;
  only : (v : ℕ) (o : Owner) → owner_at l.table.items v ≡ Some o → IsOwnerOf l.recording v o;
}
