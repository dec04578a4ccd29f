use Rattle.tx_update.proofs.CommitOrder.{still_open}
use Rattle.tx_embed.proofs.Steps.{seen_more}
use Rattle.tx_embed.proofs.open_transaction.OpenTransaction.get.Goals as goal

pub invariant_of-self : goal.invariant_of-self
invariant_of-self g c =
    let old = c.self.inside.session in
    let new = c.get-found.new.session in
    let goes = c.get-found.ensures.gets.0.0 in (
      still_open old new goes c.self.invariant.0,
      seen_more g.J.JournalId.bounds old new goes c.show.ensures.run c.self.invariant.1,
    )
