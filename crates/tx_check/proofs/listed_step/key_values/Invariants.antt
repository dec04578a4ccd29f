use Rattle.tx_text.specs.Parts.{row_data}
use Rattle.tx_check.specs.MachineSteps.{row_of}
use Rattle.tx_check.proofs.Members.{ReadSoFar}
use Rattle.tx_check.proofs.listed_step.key_values.Given as goal

abbrev pub invariant-loop-row : goal.invariant-loop-row
invariant-loop-row l = ReadSoFar row_of row_data l.rows l.row-index l.found
