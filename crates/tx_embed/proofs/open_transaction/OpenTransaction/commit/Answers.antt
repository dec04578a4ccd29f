use Rattle.std.proofs.Common.{subst}
use Rattle.tx_client.specs.Calls.{Seated}
use Rattle.tx_embed.specs.Transactions.{Commits}
use Rattle.tx_embed.proofs.open_transaction.OpenTransaction.commit.Goals as goal

pub returns-clause-commits : goal.returns-clause-commits
returns-clause-commits g c =
    let terms = c.args.terms.now in
    let wrote = c.write-session.ensures in
    subst
    (λ (s : Seated). Commits g.J.JournalId.bounds terms s c.ended-ending.result.0 c.ended-ending.result.1)
    c.self.view_is
    (c.ended-ending.ensures terms c.self.inside.session wrote.session wrote.wrote wrote.names wrote.why wrote.at_most)
