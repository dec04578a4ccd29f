use Rattle.std.proofs.Common.{length, ap, ◌∙◌}
use Rattle.tx_acts.specs.About.{said_text}
use Rattle.tx_recording.specs.Recordings.{transaction_at}
use Rattle.tx_acts.proofs.Known.{if_so}
use Rattle.tx_acts.proofs.transaction.about.Goals as goal

pub returns : goal.returns
returns c =
    let h = c.args.history.now in
    let t = c.args.txn in
    let shown = c.args.shown in
    if_so c.said_of.result c.said_of.ensures
    (λ text e. e ∙ ap (λ x. said_text h t x shown (length c.ops_at-ops.result.now)) c.transaction_at-transaction.ensures
    ∙ ap (λ os. said_text h t (transaction_at h.recording t) shown (length os)) c.ops_at-ops.ensures)
