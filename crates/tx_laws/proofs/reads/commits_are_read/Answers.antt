use Rattle.tx_laws.proofs.Told.{commits_are_read}
use Rattle.tx_laws.proofs.reads.commits_are_read.Goals as goal

pub returns : goal.returns
returns c = commits_are_read
