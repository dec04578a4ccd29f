use Rattle.std.proofs.Common.{All, sym, subst}
use Rattle.tx_core.specs.Histories.{History, Begins}
use Rattle.tx_core.proofs.seats.Beginnings.{extends_begins}
use Rattle.tx_workload.specs.Logs.{TellsBy}
use Rattle.tx_workload.specs.Tells.{TellsLine}
use Rattle.tx_workload.proofs.SessionAnswers.{tells_on}
use Rattle.tx_workload.proofs.Evidence.{lines_tell_on}
use Rattle.tx_workload.proofs.log.RunLog.hear.Goals as goal

pub invariant_of-self : goal.invariant_of-self
invariant_of-self g c =
    let source = g.L.Source.text in
    let bounds = g.J.JournalId.bounds in
    let old = c.self.inside.told in
    let now = c.learn_told.new.self.seat.events in
    let xs = c.self.inside.replies.items in
    let knows = subst (λ (h : History). Begins h now) c.copy.ensures.copy c.learn_told.ensures.after_answer.knows in (
      subst (λ h. TellsBy h c.self.inside.seat xs) (sym c.tell.ensures.told)
          (tells_on bounds old now c.show.ensures.run knows c.self.inside.seat xs c.self.invariant.0),
      c.self.invariant.1,
      subst (λ h. All (TellsLine source bounds h) xs) (sym c.tell.ensures.told)
          (lines_tell_on source bounds old now knows xs c.self.invariant.2),
    )

pub returns-clause-knows : goal.returns-clause-knows
returns-clause-knows g c =
    let old = c.args.session.now.seat in
    let now = c.learn_told.new.self.seat.events in
    subst (λ h. Begins old.events h) (sym c.tell.ensures.told)
    (extends_begins old.seat old.events now c.learn_told.ensures.after_answer.seen.extends)
