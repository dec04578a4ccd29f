use Rattle.std.proofs.Common.{◌≡◌, ◌∙◌, Ok, sym, ap, subst}
use Rattle.tx_plan.specs.declared.answer.Answer.{Answer}
use Rattle.tx_transaction.specs.Sessions.{SessionState, after_read}
use Rattle.tx_client.specs.Facts.{WasAnswered, IsSeated}
use Rattle.tx_client.specs.Calls.{Seated, Asks}
use Rattle.tx_client.proofs.Replies.{read_ok}
use Rattle.tx_client.proofs.Sends.{looked}
use Rattle.tx_client.proofs.Rooms.{told_upto}
use Rattle.tx_client.proofs.session.Session.look.Goals as goal

pub invariant_of-self : goal.invariant_of-self
invariant_of-self g c =
    let k = c.self.inside.seat in
    let told : WasAnswered k.events c.args.body c.into_parts-answer.result.0 =
    subst (λ (z : Seated × Answer). WasAnswered z.0.seat.events c.args.body z.1)
    (λ j. (sym c.self.view_is j, sym c.into_parts-answer.ensures.0 j)) c.in_ok-ask.ensures.told in
    subst (λ (z : SessionState). IsSeated g.J.JournalId.bounds k z) (sym c.after_read.ensures) (
      c.self.invariant.0,
      read_ok g.J.JournalId.bounds k.events c.self.invariant.0 k.seat c.self.inside.transaction c.self.invariant.1
          c.args.body c.into_parts-answer.result.0 told,
    )

pub returns-clause-upto : goal.returns-clause-upto
returns-clause-upto g c n is =
    let k = c.self.inside.seat in
    let told : WasAnswered k.events c.args.body c.into_parts-answer.result.0 =
    subst (λ (z : Seated × Answer). WasAnswered z.0.seat.events c.args.body z.1)
    (λ j. (sym c.self.view_is j, sym c.into_parts-answer.ensures.0 j)) c.in_ok-ask.ensures.told in
    told_upto g.J.JournalId.bounds k.events c.self.invariant.0 n c.args.body is c.into_parts-answer.result.0 told

pub returns-clause-sends : goal.returns-clause-sends
returns-clause-sends g c =
    let same : c.self.inside.transaction ≡ c.args.self.now.state = ap (λ (z : Seated). z.state) c.self.view_is
    ∙ c.ask.ensures.state in
    looked g.S.Sender.sends g.J.JournalId.bounds c.args.self.now.seat c.self.inside.seat c.args.sender.now
    c.ask.new.sender c.args.self.now.state c.after_read.new.self c.args.body (Ok c.into_parts-answer.result.0)
    (subst (λ (z : Seated × Answer). Asks g.S.Sender.sends g.J.JournalId.bounds c.args.self.now.seat c.args.body
    c.args.sender.now c.ask.new.sender (Ok z.1) z.0.seat)
    (λ j. (sym c.self.view_is j, sym c.into_parts-answer.ensures.0 j)) c.in_ok-ask.ensures.asked)
    (c.after_read.ensures ∙ ap (λ s. after_read s (Ok c.into_parts-answer.result.0)) same)
