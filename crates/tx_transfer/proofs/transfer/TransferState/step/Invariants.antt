use Rattle.tx_transfer.specs.declared.progress.TransferProgress.TheVariants as progress
use Rattle.tx_transfer.specs.TransferSteps.{Steps}
use Rattle.tx_transfer.proofs.transfer.TransferState.step.Given as goal

abbrev pub invariant-requests : goal.invariant-requests
invariant-requests g l = Steps g.J.JournalId.bounds l.fn.self progress.More l.self
