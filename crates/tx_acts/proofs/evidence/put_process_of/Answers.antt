use Rattle.std.proofs.Common.{◌++◌, ap, ◌∙◌}
use Rattle.tx_acts.specs.About.{process_text}
use Rattle.tx_ring.proofs.Pieces.{on_so}
use Rattle.tx_acts.proofs.evidence.put_process_of.Goals as goal

pub returns : goal.returns
returns c =
    let h = c.args.history.now in
    on_so c.put_known_process.result c.put_known_process.ensures (λ e.
    e ∙ ap (λ x. c.args.out.now.items ++ process_text h x.process) c.transaction_at-transaction.ensures)
