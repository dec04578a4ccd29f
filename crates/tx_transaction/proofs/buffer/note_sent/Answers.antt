use Rattle.std.proofs.Common.{◌∙◌, ap}
use Rattle.tx_transaction.specs.Buffers.{with_progress}
use Rattle.tx_transaction.specs.Sessions.{sent_by}
use Rattle.tx_transaction.proofs.buffer.note_sent.Goals as goal

pub returns : goal.returns
returns c =
    c.set_progress.ensures ∙ ap
    (with_progress c.args.buffer.now c.args.i) (c.mark_sent.ensures
    ∙ ap (sent_by c.args.phase) c.progress_of-progress.ensures)
