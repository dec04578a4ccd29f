use Rattle.std.proofs.Common.{sym, subst}
use Rattle.tx_core.specs.Histories.{Begins}
use Rattle.tx_workload.specs.Logs.{Logged, TellsBy}
use Rattle.std.proofs.Common.{All}
use Rattle.tx_workload.specs.Tells.{TellsLine}
use Rattle.tx_workload.proofs.SessionAnswers.{tells_on}
use Rattle.tx_workload.proofs.Evidence.{lines_tell_on}
use Rattle.tx_workload.proofs.log.RunLog.learn.Goals as goal

pub invariant_of-self : goal.invariant_of-self
invariant_of-self g c =
    let events = c.args.seat.now.events in
    let knows = subst (λ (l : Logged). Begins l.told events) (sym c.self.view_is) c.requires in (
      subst (λ h. TellsBy h c.self.inside.seat c.self.inside.replies.items) (sym c.tell.ensures.told)
          (tells_on g.J.JournalId.bounds c.self.inside.told events c.tell.ensures.run.0 knows c.self.inside.seat
          c.self.inside.replies.items c.self.invariant.0),
      c.self.invariant.1,
      subst (λ h. All (TellsLine g.L.Source.text g.J.JournalId.bounds h) c.self.inside.replies.items)
          (sym c.tell.ensures.told)
          (lines_tell_on g.L.Source.text g.J.JournalId.bounds c.self.inside.told events knows
          c.self.inside.replies.items
          c.self.invariant.2),
    )
