use Rattle.std.proofs.Common.{◌++◌, codes, ap, ◌∙◌}
use Rattle.tx_acts.specs.About.{number_text}
use Rattle.tx_ring.proofs.Pieces.{on_so}
use Rattle.tx_acts.proofs.evidence.put_end_of.Goals as goal

pub returns : goal.returns
returns c =
    let h = c.args.history.now in
    on_so c.put_number.result c.put_number.ensures (λ e.
    e ∙ ap (λ x. c.args.out.now.items ++ number_text (codes ", end ") x.ended) c.transaction_at-transaction.ensures)
