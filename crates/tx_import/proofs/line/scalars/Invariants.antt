use Rattle.serde_json.specs.View.{view}
use Rattle.tx_check.proofs.Members.{ReadSoFar}
use Rattle.tx_import.specs.Said.{scalar_of}
use Rattle.tx_import.proofs.line.scalars.Given as goal

abbrev pub invariant-loop-value : goal.invariant-loop-value
invariant-loop-value l = ReadSoFar scalar_of view l.values l.value-index l.scalars
