-- The owner is the transaction.
use Rattle.std.proofs.lemmas.Bool.{eqb-true}
use Rattle.tx_verdict.proofs.owners.is_by.Goals as goal

pub returns-in-Some : goal.returns-in-Some
returns-in-Some c is = (c.in-Some.owner, c.in-Some.ensures.some, eqb-true c.in-Some.owner.txn c.args.txn is)
