use Rattle.tx_isolation.proofs.Gets.{gets_at_start}
use Rattle.tx_isolation.proofs.laws.sessions_read_one_snapshot.Goals as goal

pub returns : goal.returns
returns g c = gets_at_start g.J.JournalId.bounds g.S.Sender.fits g.S.Sender.sends g.S.Sender.keys_between
