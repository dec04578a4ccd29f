use Rattle.std.proofs.Common.{rules, refl, ◌∙◌}
use Rattle.tx_core.proofs.seats.Beginnings.{begins_all, begins_more}
use Rattle.tx_update.specs.Reads.{IsScanAnswer, LosesRead}
use Rattle.tx_update.proofs.ReadStops.{if_told_stops}
use Rattle.tx_update.proofs.lent.Lent.look_for.Goals as goal

pub loop-init : goal.loop-init
loop-init g c = (refl, begins_all c.args.self.now.running.seat.events)

pub returns-in_err-answer-clause-more : goal.returns-in_err-answer-clause-more
returns-in_err-answer-clause-more g c =
    begins_more c.args.self.now.running.seat.events c.loop.self.running.seat.events
    c.look_over.new.self.running.seat.events c.loop.invariant.1 c.look_over.ensures.more

pub returns-in-Some-clause-more : goal.returns-in-Some-clause-more
returns-in-Some-clause-more g c =
    begins_more c.args.self.now.running.seat.events c.loop.self.running.seat.events
    c.look_over.new.self.running.seat.events c.loop.invariant.1 c.look_over.ensures.more

pub loop-preserved : goal.loop-preserved
loop-preserved g c = (
  c.look_over.ensures.same ∙ c.loop.invariant.0,
  begins_more c.args.self.now.running.seat.events c.loop.self.running.seat.events
      c.look_over.new.self.running.seat.events c.loop.invariant.1 c.look_over.ensures.more,
)

pub returns-in-Some-clause-err : goal.returns-in-Some-clause-err
returns-in-Some-clause-err g c =
    let start = g.B.Begun.session.state.start in
    let events = c.look_over.new.self.running.seat.events in
    let may : IsScanAnswer events start c.in-Some.answer = search rules in
    if_told_stops (LosesRead g.S.Sender.sends) events start (λ h n. IsScanAnswer h n c.in-Some.answer)
    c.rows_in.result c.rows_in.ensures.err may

-- the last read
pub returns-in_err-answer-2-clause-more : goal.returns-in_err-answer-2-clause-more
returns-in_err-answer-2-clause-more g c =
    begins_more c.args.self.now.running.seat.events c.loop.self.running.seat.events c.scan.new.self.seat.events
    c.loop.invariant.1 c.scan.ensures.more

pub returns-clause-more : goal.returns-clause-more
returns-clause-more g c =
    begins_more c.args.self.now.running.seat.events c.loop.self.running.seat.events c.scan.new.self.seat.events
    c.loop.invariant.1 c.scan.ensures.more

pub returns-clause-err : goal.returns-clause-err
returns-clause-err g c =
    if_told_stops (LosesRead g.S.Sender.sends) c.scan.new.self.seat.events g.B.Begun.session.state.start
    (λ h n. IsScanAnswer h n c.in_ok-answer-2.answer) c.rows_in-2.result c.rows_in-2.ensures.err
    (c.in_ok-answer-2.ensures.may c.loop.self.drawn)
