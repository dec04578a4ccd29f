use Rattle.tx_transaction.proofs.Turns.{abort_rolls_back, no_prewrite_rolls_back, no_commit_rolls_back}
use Rattle.tx_transaction.proofs.laws.rollback_once_aborted.Goals as goal

pub returns : goal.returns
returns c = record { abort = abort_rolls_back; prewrite = no_prewrite_rolls_back; commit = no_commit_rolls_back }
