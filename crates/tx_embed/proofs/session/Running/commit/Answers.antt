use Rattle.std.proofs.Common.{◌≡◌, true, sym, subst}
use Rattle.tx_client.specs.Calls.{Seated}
use Rattle.tx_transaction.specs.declared.state.Phase.TheVariants as phase
use Rattle.tx_transaction.specs.Sessions.{due_commit, can_commit}
use Rattle.tx_update.proofs.CallSequences.{commit_ends, follows_due, follows_more}
use Rattle.tx_embed.proofs.EnteredKeys.{keeps_due, keeps_more}
use Rattle.tx_embed.proofs.session.Running.commit.Goals as goal

pub invariant_of-self : goal.invariant_of-self
invariant_of-self g c =
    let old = c.self.inside.session in
    let new = c.commit_next.new.self in
    let follows = follows_due g.S.Sender.sends g.J.JournalId.bounds old new _ _ phase.Commit (due_commit old.state)
    c.commit_next.result c.commit_next.ensures in
    let keeps = keeps_due g.S.Sender.sends g.J.JournalId.bounds old new _ _ phase.Commit (due_commit old.state)
    c.commit_next.result c.commit_next.ensures in (
      c.self.invariant.0,
      follows_more g.B.Begun.session old new c.self.invariant.1 follows,
      c.self.invariant.2,
      keeps_more g.B.Begun.session.state.buffer old.state.buffer new.state.buffer c.self.invariant.3 keeps,
    )

-- where no commit is due, there is an outcome
pub returns : goal.returns
returns g c =
    commit_ends g.S.Sender.sends g.J.JournalId.bounds c.self.inside.session c.commit_next.new.self _ _
    c.commit_next.result (subst (λ (s : Seated). can_commit s.state ≡ true) (sym c.self.view_is) c.requires)
    c.commit_next.ensures
