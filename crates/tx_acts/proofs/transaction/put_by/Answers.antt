use Rattle.std.proofs.Common.{codes}
use Rattle.serde_json.specs.Written.{compact_text}
use Rattle.tx_verdict_text.specs.Words.{process_data}
use Rattle.tx_ring.proofs.Pieces.{after, on_so}
use Rattle.tx_acts.proofs.transaction.put_by.Goals as goal

pub returns : goal.returns
returns c =
    let words = codes ", process " in
    let name = compact_text (process_data c.args.history.now c.args.process) in
    on_so c.put_process.result c.put_process.ensures (λ e.
    after c.args.out.now.items words name c.in_ok-extend_from_slice.ensures.items e)
