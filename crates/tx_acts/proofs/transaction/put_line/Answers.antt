use Rattle.std.proofs.Common.{codes}
use Rattle.std.proofs.Common.{◌+◌}
use Rattle.std.specs.Prelude.{decimal}
use Rattle.tx_ring.proofs.Pieces.{after, on_so}
use Rattle.tx_acts.proofs.transaction.put_line.Goals as goal

pub returns : goal.returns
returns c =
    let line = codes "line " in
    let number = decimal (c.args.txn + 1) in
    on_so c.put_place.result c.put_place.ensures (λ e.
    after c.args.out.now.items line number c.in_ok-extend_from_slice.ensures.items e)
