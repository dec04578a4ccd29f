use Rattle.std.proofs.Common.{◌++◌, codes}
use Rattle.std.specs.Prelude.{decimal}
use Rattle.tx_ring.specs.Rings.{high_of, top_of}
use Rattle.tx_ring.proofs.Pieces.{after, on_so}
use Rattle.tx_ring.proofs.ring.put_place.Goals as goal

pub returns : goal.returns
returns c =
    let start = codes "<g class=\"" in
    let kind = c.args.kind.now in
    let turn = codes "\" transform=\"translate(56 " in
    let top = decimal (top_of c.args.rows c.args.place) in
    let box = codes ")\">\n<rect class=\"box\" width=\"372\" height=\"" in
    let high = decimal (high_of c.args.rows) in
    on_so c.put_high.result c.put_high.ensures (λ e.
    after c.args.out.now.items start (kind ++ (turn ++ (top ++ (box ++ high)))) c.in_ok-put.ensures
    (after c.put.new.out.items kind (turn ++ (top ++ (box ++ high))) c.in_ok-put-2.ensures
    (after c.put-2.new.out.items turn (top ++ (box ++ high)) c.in_ok-put-3.ensures
    (after c.put-3.new.out.items top (box ++ high) c.in_ok-put_top.ensures
    (after c.put_top.new.out.items box high c.in_ok-put-4.ensures e)))))
