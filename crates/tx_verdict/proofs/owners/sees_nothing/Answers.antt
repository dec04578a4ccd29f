-- The view is empty.
use Rattle.std.proofs.lemmas.Bool.{eqb-true}
use Rattle.tx_verdict.proofs.Views.{saw_nothing}
use Rattle.tx_verdict.proofs.owners.sees_nothing.Goals as goal

pub returns : goal.returns
returns c is =
    saw_nothing c.args.recording.now c.args.view c.args.txn c.args.key c.requires.view c.if-view-txn.false
    c.if-view-key.false
    (eqb-true c.args.view.span.count 0 is)
