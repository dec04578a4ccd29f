use Rattle.tx_transaction.specs.declared.state.Phase.TheVariants as phase
use Rattle.tx_transaction.specs.Next.{due}
use Rattle.tx_client.specs.Walks.{due_walk}
use Rattle.tx_transfer.proofs.TransferSteps.{asks_inside}
use Rattle.tx_transfer.proofs.transfer.TransferState.send_commit.Goals as goal

pub returns : goal.returns
returns g c = asks_inside g.J.JournalId.bounds _ c.args.self.now c.commit.new.session
    (λ s. due_walk s phase.Commit (due s phase.Commit)) c.commit.result c.self.view_is c.commit.ensures.over
