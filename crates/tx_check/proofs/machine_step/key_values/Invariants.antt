use Rattle.serde_json.specs.View.{view}
use Rattle.tx_check.specs.MachineSteps.{row_of}
use Rattle.tx_check.proofs.Members.{ReadSoFar}
use Rattle.tx_check.proofs.machine_step.key_values.Given as goal

abbrev pub invariant-loop-item : goal.invariant-loop-item
invariant-loop-item l = ReadSoFar row_of view l.item-items l.item-index l.rows
