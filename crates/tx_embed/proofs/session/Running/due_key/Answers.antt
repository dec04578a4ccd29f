use Rattle.std.proofs.Common.{◌≡◌, Some, rules}
use Rattle.tx_transaction.specs.declared.state.Phase.TheVariants as phase
use Rattle.tx_transaction.specs.Next.{due_key}
use Rattle.tx_embed.proofs.EnteredKeys.{due_entered}
use Rattle.tx_embed.proofs.session.Running.due_key.Goals as goal

pub returns-in_ok-clone-in-Some-clause-ok : goal.returns-in_ok-clone-in-Some-clause-ok
returns-in_ok-clone-in-Some-clause-ok g c =
    let key = c.in_ok-clone-in-Some.field-0 in
    let is : due_key c.args.self.now.state phase.Prewrite ≡ Some key = search rules in
    due_entered g.B.Begun.session.state.buffer c.args.self.now.state c.know_keys.ensures key is
