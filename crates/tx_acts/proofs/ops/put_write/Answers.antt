use Rattle.std.proofs.Common.{codes}
use Rattle.tx_acts.specs.Ops.{did_words, value_text}
use Rattle.tx_ring.proofs.Pieces.{after, on_so}
use Rattle.tx_acts.proofs.ops.put_write.Goals as goal

pub returns : goal.returns
returns c =
    let did = did_words c.args.history.now (codes "write ") c.args.key in
    let value = value_text c.args.history.now c.args.value in
    on_so c.put_one.result c.put_one.ensures (λ e.
    after c.args.out.now.items did value c.in_ok-put_did.ensures e)
