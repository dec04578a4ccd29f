use Rattle.std.proofs.Common.{All, subst}
use Rattle.tx_workload.specs.Logs.{Logged}
use Rattle.tx_workload.specs.Tells.{TellsLine}
use Rattle.tx_workload.proofs.log.RunLog.into_parts.Goals as goal

pub returns-clause-tells : goal.returns-clause-tells
returns-clause-tells g c =
    subst (λ (l : Logged). All (TellsLine g.L.Source.text g.J.JournalId.bounds l.told) l.replies) c.self.view_is
    c.self.invariant.2
