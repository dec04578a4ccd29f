use Rattle.std.proofs.Common.{codes}
use Rattle.tx_acts.specs.Ops.{values_text}
use Rattle.tx_ring.proofs.Pieces.{after, on_so}
use Rattle.tx_acts.proofs.ops.put_last.Goals as goal

pub returns : goal.returns
returns c =
    let dots = codes " .." in
    let values = values_text c.args.history.now c.args.values.now in
    on_so c.put_values.result c.put_values.ensures (λ e.
    after c.args.out.now.items dots values c.in_ok-extend_from_slice.ensures.items e)
