-- The last value that is seen was put by the writer.
use Rattle.tx_verdict.proofs.Views.{saw_of}
use Rattle.tx_verdict.proofs.owners.sees_writer.Goals as goal

pub returns : goal.returns
returns c is =
    saw_of c.args.case.now.recording.now c.args.case.now.owners.now c.args.view c.list_of-list.result.now
    c.args.txn c.args.key
    c.args.writer
    c.requires.case.owners c.requires.view c.if-view-txn.false c.if-view-key.false c.list_of-list.ensures
    (λ none. c.if-count-eq0.false none) (c.is_by.ensures is)
