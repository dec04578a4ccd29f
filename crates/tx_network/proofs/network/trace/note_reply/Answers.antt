use Rattle.std.proofs.Common.{Option, ap, subst, ◌∙◌}
use Rattle.tx_plan.specs.declared.answer.Answer.{Answer}
use Rattle.tx_plan.specs.declared.body.Body.{Body}
use Rattle.tx_journal.specs.Replies.{Asked}
use Rattle.tx_network.specs.Networks.{NotesTaken}
use Rattle.tx_network.proofs.network.trace.note_reply.Goals as goal

pub returns-in-Some : goal.returns-in-Some
returns-in-Some g c =
    let body = c.body.ensures.body ∙ ap (λ (q : Asked). q.body) c.request.ensures in
    subst (λ (p : Body × Option Answer). NotesTaken p.0 p.1 c.args.trace.now c.note_taken.new.trace)
    (λ i. (body i, c.in-Some.ensures.answer i)) c.note_taken.ensures
