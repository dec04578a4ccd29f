use Rattle.std.proofs.Common.{◌≡◌, take}
use Rattle.tx_types.specs.declared.key.Key.{Key}
use Rattle.tx_machine.specs.Keys.{IsDistinct}
use Rattle.tx_machine.specs.Shown.{versions_of}
use Rattle.tx_machine.specs.Representation.{HasVersions}
use Rattle.tx_machine.proofs.InsertReads.{LeavesReads}
use Rattle.tx_machine.proofs.commit.note_inserts.Given as goal

abbrev pub invariant-loop-change : goal.invariant-loop-change
invariant-loop-change l =
    ((k : Key) → versions_of l.index k ≡ versions_of l.initial.index k)
    × (IsDistinct l.set → HasVersions l.initial.index l.set
    → LeavesReads l.initial.index l.index (take l.change-index l.set) l.set l.t)
