use Rattle.std.proofs.Common.{◌≡◌, ◌∷◌, refl, sym, ap, ◌∙◌}
use Rattle.tx_trace.specs.declared.taken_log.Taking.{Taking}
use Rattle.tx_trace.specs.Takings.{takings}
use Rattle.tx_trace.proofs.Steps.{one_more}
use Rattle.tx_trace.proofs.taken_log.TakenLog.took.Goals as goal

pub returns-clause-ok : goal.returns-clause-ok
returns-clause-ok c x same said h are =
    let old = c.args.self.now.takings.items in
    let one : Taking = record { body = c.in_ok-body.body; answer = c.in_ok-answer.answer } in
    ap (λ b. record { body = b; answer = x.answer } ∷ takings h) (same ∙ sym c.in_ok-body.ensures.ok)
    ∙ (ap (λ a. record { body = c.in_ok-body.body; answer = a } ∷ takings h) (said ∙ sym c.in_ok-answer.ensures.ok)
    ∙ (ap (λ ts. one ∷ ts) are
    ∙ sym (one_more old old c.push.new.self.items one refl c.in_ok-push.ensures.items)))
