use Rattle.std.proofs.Common.{◌≡◌, length}
use Rattle.tx_sheet.proofs.machine.words_of.Given as goal

abbrev pub invariant-steps : goal.invariant-steps
invariant-steps l = length l.all.items ≡ l.step-index
