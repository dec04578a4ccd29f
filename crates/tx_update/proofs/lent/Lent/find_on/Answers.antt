use Rattle.std.proofs.Common.{IfOk, rules, refl, subst, ◌∙◌}
use Rattle.tx_core.proofs.seats.Beginnings.{begins_all, begins_more}
use Rattle.tx_transaction.specs.Buffers.{Entries, buffered}
use Rattle.tx_update.specs.Reads.{AnswersReadOn, FindsOn, IsGetAnswer, LosesRead}
use Rattle.tx_update.proofs.FoundKeys.{if_found_on}
use Rattle.tx_update.proofs.ReadStops.{if_told_stops}
use Rattle.tx_update.proofs.lent.Lent.find_on.Goals as goal

pub loop-init : goal.loop-init
loop-init g c = (refl, begins_all c.args.self.now.running.seat.events)

pub returns-in_err-answer-clause-more : goal.returns-in_err-answer-clause-more
returns-in_err-answer-clause-more g c =
    begins_more c.args.self.now.running.seat.events c.loop.self.running.seat.events
    c.look.new.self.running.seat.events c.loop.invariant.1 c.look.ensures.more

pub returns-in-Some-clause-more : goal.returns-in-Some-clause-more
returns-in-Some-clause-more g c =
    begins_more c.args.self.now.running.seat.events c.loop.self.running.seat.events
    c.look.new.self.running.seat.events c.loop.invariant.1 c.look.ensures.more

pub loop-preserved : goal.loop-preserved
loop-preserved g c = (
  c.look.ensures.same ∙ c.loop.invariant.0,
  begins_more c.args.self.now.running.seat.events c.loop.self.running.seat.events
      c.look.new.self.running.seat.events c.loop.invariant.1 c.look.ensures.more,
)

pub returns-in-Some-clause-err : goal.returns-in-Some-clause-err
returns-in-Some-clause-err g c =
    let start = g.B.Begun.session.state.start in
    let events = c.look.new.self.running.seat.events in
    let may : IsGetAnswer events start c.args.key.now c.in-Some.answer = search rules in
    if_told_stops (LosesRead g.S.Sender.sends) events start
    (λ h n. IsGetAnswer h n c.args.key.now c.in-Some.answer) c.value_in.result c.value_in.ensures.err may

pub returns-in-Some-clause-finds : goal.returns-in-Some-clause-finds
returns-in-Some-clause-finds g c =
    let bounds = g.J.JournalId.bounds in
    let start = g.B.Begun.session.state.start in
    let key = c.args.key.now in
    let events = c.look.new.self.running.seat.events in
    let reads : AnswersReadOn bounds (buffered c.loop.self.running.state.buffer key) events start key c.in-Some.answer =
    search rules in
    subst (λ (es : Entries). IfOk c.value_in.result (FindsOn bounds (buffered es key) events start key))
    c.loop.invariant.0
    (if_found_on bounds (buffered c.loop.self.running.state.buffer key) events start key c.in-Some.answer
    c.value_in.result c.value_in.ensures.finds reads)

-- the last read
pub returns-in_err-answer-2-clause-more : goal.returns-in_err-answer-2-clause-more
returns-in_err-answer-2-clause-more g c =
    begins_more c.args.self.now.running.seat.events c.loop.self.running.seat.events c.get.new.self.seat.events
    c.loop.invariant.1 c.get.ensures.more

pub returns-clause-more : goal.returns-clause-more
returns-clause-more g c =
    begins_more c.args.self.now.running.seat.events c.loop.self.running.seat.events c.get.new.self.seat.events
    c.loop.invariant.1 c.get.ensures.more

pub returns-clause-err : goal.returns-clause-err
returns-clause-err g c =
    if_told_stops (LosesRead g.S.Sender.sends) c.get.new.self.seat.events g.B.Begun.session.state.start
    (λ h n. IsGetAnswer h n c.args.key.now c.in_ok-answer-2.answer) c.value_in-2.result c.value_in-2.ensures.err
    (c.in_ok-answer-2.ensures.may c.loop.self.drawn)

pub returns-clause-finds : goal.returns-clause-finds
returns-clause-finds g c =
    let bounds = g.J.JournalId.bounds in
    let start = g.B.Begun.session.state.start in
    let key = c.args.key.now in
    let events = c.get.new.self.seat.events in
    subst (λ (es : Entries). IfOk c.value_in-2.result (FindsOn bounds (buffered es key) events start key))
    c.loop.invariant.0
    (if_found_on bounds (buffered c.loop.self.running.state.buffer key) events start key c.in_ok-answer-2.answer
    c.value_in-2.result c.value_in-2.ensures.finds c.in_ok-answer-2.ensures.reads)
