use Rattle.std.specs.Prelude.{decimal}
use Rattle.tx_ring.proofs.Pieces.{after, on_so}
use Rattle.tx_acts.proofs.transaction.put_worded.Goals as goal

pub returns : goal.returns
returns c =
    let words = c.args.words.now in
    let number = decimal c.args.number in
    on_so c.put_digits.result c.put_digits.ensures (λ e.
    after c.args.out.now.items words number c.in_ok-extend_from_slice.ensures.items e)
