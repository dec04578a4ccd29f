use Rattle.std.proofs.Common.{◌≡◌, ◌∙◌, sym, ap, subst}
use Rattle.tx_plan.specs.declared.answer.Answer.{Answer}
use Rattle.tx_transaction.specs.Sessions.{SessionState}
use Rattle.tx_client.specs.Facts.{WasAnswered, IsFor, IsSeated}
use Rattle.tx_client.specs.Calls.{Seated}
use Rattle.tx_client.proofs.Replies.{heard_ok, missed_ok}
use Rattle.tx_client.proofs.Calls.{held_for}
use Rattle.tx_client.proofs.session.Session.pursue.Goals as goal

pub ask-requires-clause-held : goal.ask-requires-clause-held
ask-requires-clause-held g c =
    held_for g.J.JournalId.bounds c.args.self.now.state c.args.phase c.args.due c.requires.right

pub invariant_of-self : goal.invariant_of-self
invariant_of-self g c =
    let k = c.self.inside.seat in
    let s : SessionState = c.self.inside.transaction in
    let same : s ≡ c.args.self.now.state = ap (λ (z : Seated). z.state) c.self.view_is ∙ c.ask.ensures.state in
    let right : IsFor s c.args.phase c.args.due =
    subst (λ (z : SessionState). IsFor z c.args.phase c.args.due) (sym same) c.requires.right in
    let told : WasAnswered k.events c.args.due.body c.into_parts-answer.result.0 =
    subst (λ (z : Seated × Answer). WasAnswered z.0.seat.events c.args.due.body z.1)
    (λ j. (sym c.self.view_is j, sym c.into_parts-answer.ensures.0 j)) c.in-Ok.ensures.told in
    subst (λ (z : SessionState). IsSeated g.J.JournalId.bounds k z) (sym c.after_answer.ensures) (
      c.self.invariant.0,
      heard_ok g.J.JournalId.bounds k.events c.self.invariant.0 k.seat s c.self.invariant.1 c.args.phase c.args.due
          right c.into_parts-answer.result.0 told,
    )

pub invariant_of-self-in-Err : goal.invariant_of-self-in-Err
invariant_of-self-in-Err g c =
    let k = c.self.inside.seat in
    subst (λ (z : SessionState). IsSeated g.J.JournalId.bounds k z) (sym c.after_miss.ensures) (
      c.self.invariant.0,
      missed_ok g.J.JournalId.bounds k.events c.self.invariant.0 k.seat c.self.inside.transaction c.self.invariant.1
          c.args.phase c.args.due.index c.in-Err.miss,
    )
