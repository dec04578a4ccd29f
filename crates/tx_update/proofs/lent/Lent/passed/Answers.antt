use Rattle.std.proofs.Common.{◌≡◌, Bor, Ok, rules, refl}
use Rattle.tx_types.specs.declared.key.Key.{Key}
use Rattle.tx_core.proofs.seats.Beginnings.{begins_all}
use Rattle.tx_plan.specs.declared.answer.Answer.TheVariants.{KeyIsLocked}
use Rattle.tx_update.specs.Reads.{LosesRead}
use Rattle.tx_update.proofs.ReadStops.{lock_stops}
use Rattle.tx_update.proofs.lent.Lent.passed.Goals as goal

pub returns-in_err-answer-clause-more : goal.returns-in_err-answer-clause-more
returns-in_err-answer-clause-more g c = begins_all c.args.self.now.running.seat.events

pub returns-clause-more : goal.returns-clause-more
returns-clause-more g c = begins_all c.args.self.now.running.seat.events

pub returns-clause-answers : goal.returns-clause-answers
returns-clause-answers g c = (search rules, refl)

-- the lock that the answer tells
pub returns-in-Waiting-clause-err : goal.returns-in-Waiting-clause-err
returns-in-Waiting-clause-err g c = λ tells missed.
    let same : c.args.response ≡ Ok (KeyIsLocked c.in-KeyIsLocked.info) = search rules in
    let own : c.facts.result.now.key ≡ c.in-KeyIsLocked.info.key = search rules in
    lock_stops (LosesRead g.S.Sender.sends) c.args.self.now.running.seat.events c.clear.new.self.seat.events
    c.clear.ensures.more g.B.Begun.session.state.start (λ (k : Bor Key). k.now) c.args.named _ c.unwrap_or-key.result
    c.args.response c.in-KeyIsLocked.info c.in_ok-clone-in-Waiting.field-0 c.in-Waiting.why same own
    c.unwrap_or-key.ensures c.in_ok-clone-in-Waiting.ensures.ok tells
