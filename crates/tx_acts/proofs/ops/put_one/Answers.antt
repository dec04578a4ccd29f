use Rattle.std.proofs.Common.{codes}
use Rattle.serde_json.specs.Written.{compact_text}
use Rattle.tx_verdict_text.specs.Words.{value_data}
use Rattle.tx_ring.proofs.Pieces.{after, on_so}
use Rattle.tx_acts.proofs.ops.put_one.Goals as goal

pub returns : goal.returns
returns c =
    let space = codes " " in
    let value = compact_text (value_data c.args.history.now c.args.value) in
    on_so c.put_value.result c.put_value.ensures (λ e.
    after c.args.out.now.items space value c.in_ok-extend_from_slice.ensures.items e)
