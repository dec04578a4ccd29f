use Rattle.serde_json.specs.View.{view}
use Rattle.tx_check.specs.MachineSteps.{change_of}
use Rattle.tx_check.proofs.Members.{ReadSoFar}
use Rattle.tx_check.proofs.machine_step.changes.Given as goal

abbrev pub invariant-loop-item : goal.invariant-loop-item
invariant-loop-item l = ReadSoFar change_of view l.item-items l.item-index l.changes
