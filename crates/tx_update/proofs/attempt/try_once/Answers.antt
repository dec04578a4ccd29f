use Rattle.std.proofs.Common.{◌<◌, refl, sym, subst}
use Rattle.tx_journal.specs.Known.{Known}
use Rattle.tx_update.proofs.ReadReplies.{began_drawn}
use Rattle.tx_update.proofs.CallSequences.{goes_itself}
use Rattle.tx_update.proofs.Retries.{ended_over, unended_in}
use Rattle.tx_update.proofs.attempt.try_once.Goals as goal

pub run-session-requires-clause-drawn : goal.run-session-requires-clause-drawn
run-session-requires-clause-drawn g c =
    began_drawn g.J.JournalId.bounds c.args.seats.begins c.in-Ok.session c.in-Ok.ensures.ok.1

pub returns-in-Ok-clause-ended : goal.returns-in-Ok-clause-ended
returns-in-Ok-clause-ended g c =
    let begun = c.in-Ok.session in
    ended_over g.W.Work.does g.J.JournalId.bounds c.args.terms.now c.args.seats begun c.run-session.result.0
    c.run-session.result.1 c.run-session.result.2 c.run-session.result.3 c.finished.result c.args.work.now
    c.run-session.new.work c.in-Ok.ensures.ok.1 c.run-session.ensures.session c.run-session.ensures.works
    c.run-session.ensures.resolver (c.finished.ensures.ended begun c.run-session.ensures.session)

pub returns-in-Ok-clause-unended : goal.returns-in-Ok-clause-unended
returns-in-Ok-clause-unended g c =
    let begun = c.in-Ok.session in
    unended_in g.W.Work.does g.J.JournalId.bounds c.args.terms.now c.args.seats begun c.run-session.result.0
    c.run-session.result.1 c.run-session.result.2 c.run-session.result.3 c.finished.result c.args.work.now
    c.run-session.new.work c.in-Ok.ensures.ok.1 c.run-session.ensures.session c.run-session.ensures.works
    c.run-session.ensures.resolver c.run-session.ensures.ended c.finished.ensures.open_yet

pub returns-in-Err-clause-unended : goal.returns-in-Err-clause-unended
returns-in-Err-clause-unended g c =
    let spent = c.in-Err.ensures.spent in (
      (spent.0, refl),
      goes_itself c.args.seats.resolves,
      subst (λ (k : Known). k.ticks < 1) (sym spent.0) spent.1,
    )
