use Rattle.tx_transaction.specs.declared.state.Phase.TheVariants as phase
use Rattle.tx_transaction.specs.Sessions.{due_abort}
use Rattle.tx_update.proofs.CallSequences.{follows_due, follows_more}
use Rattle.tx_embed.proofs.EnteredKeys.{keeps_due, keeps_more}
use Rattle.tx_embed.proofs.session.Running.abort.Goals as goal

pub invariant_of-self : goal.invariant_of-self
invariant_of-self g c =
    let old = c.self.inside.session in
    let new = c.abort_next.new.self in
    let follows = follows_due g.S.Sender.sends g.J.JournalId.bounds old new _ _ phase.Abort (due_abort old.state)
    c.abort_next.result c.abort_next.ensures in
    let keeps = keeps_due g.S.Sender.sends g.J.JournalId.bounds old new _ _ phase.Abort (due_abort old.state)
    c.abort_next.result c.abort_next.ensures in (
      c.self.invariant.0,
      follows_more g.B.Begun.session old new c.self.invariant.1 follows,
      c.self.invariant.2,
      keeps_more g.B.Begun.session.state.buffer old.state.buffer new.state.buffer c.self.invariant.3 keeps,
    )
