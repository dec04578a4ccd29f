use Rattle.std.proofs.Common.{take}
use Rattle.tx_machine.specs.Keys.{IsDistinct}
use Rattle.tx_machine.proofs.sets.compared.Given as goal

abbrev pub invariant-loop-at : goal.invariant-loop-at
invariant-loop-at l = IsDistinct (take l.at l.set)
