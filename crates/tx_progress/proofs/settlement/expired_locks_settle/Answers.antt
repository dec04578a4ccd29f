use Rattle.tx_progress.proofs.Served.{settles_unless, settles}
use Rattle.tx_progress.proofs.settlement.expired_locks_settle.Goals as goal

pub returns-clause-unless_alive : goal.returns-clause-unless_alive
returns-clause-unless_alive g c way = settles_unless g.S.Sender.sends g.J.JournalId.bounds way.answers

pub returns-clause-settles : goal.returns-clause-settles
returns-clause-settles g c way = settles g.S.Sender.sends g.J.JournalId.bounds way.answers
