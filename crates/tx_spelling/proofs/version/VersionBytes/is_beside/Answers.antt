use Rattle.std.proofs.Common.{sym}
use Rattle.tx_spelling.proofs.FirstGroups.{tells_same}
use Rattle.tx_spelling.proofs.version.VersionBytes.is_beside.Goals as goal

pub returns : goal.returns
returns c = rw (c.eq.ensures, sym c.self.view_is, sym c.other.view_is) (tells_same c.self.inside.key c.other.inside.key)
