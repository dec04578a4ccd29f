use Rattle.serde_json.specs.View.{view}
use Rattle.tx_check.proofs.Members.{ReadSoFar}
use Rattle.tx_import.specs.Said.{op_of}
use Rattle.tx_import.proofs.line.ops.Given as goal

abbrev pub invariant-loop-value : goal.invariant-loop-value
invariant-loop-value l = ReadSoFar op_of view l.values l.value-index l.ops
