use Rattle.tx_steps.proofs.ReadKeys.{ReadSoFar}
use Rattle.tx_steps.proofs.bounds.keys.Given as goal

abbrev pub invariant-loop-value : goal.invariant-loop-value
invariant-loop-value l = ReadSoFar l.values l.value-index l.keys.items
