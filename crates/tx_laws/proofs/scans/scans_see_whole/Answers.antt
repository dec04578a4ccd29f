use Rattle.tx_laws.proofs.Scanned.{sees_whole}
use Rattle.tx_laws.proofs.scans.scans_see_whole.Goals as goal

pub returns : goal.returns
returns g c = sees_whole g.J.JournalId.bounds g.S.Sender.fits g.S.Sender.sends g.S.Sender.keys_between
