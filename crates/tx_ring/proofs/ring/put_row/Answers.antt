use Rattle.std.proofs.Common.{◌++◌, codes}
use Rattle.std.specs.Prelude.{decimal}
use Rattle.tx_ring.specs.Markup.{marked}
use Rattle.tx_ring.specs.Rings.{row_top}
use Rattle.tx_ring.proofs.Pieces.{after, on_so}
use Rattle.tx_ring.proofs.ring.put_row.Goals as goal

pub returns : goal.returns
returns c =
    let start = codes "<text class=\"row\" x=\"12\" y=\"" in
    let top = decimal (row_top c.args.number) in
    let between = codes "\">" in
    let text = marked c.args.text.now in
    let end = codes "</text>\n" in
    on_so c.put-3.result c.put-3.ensures (λ e.
    after c.args.out.now.items start (top ++ (between ++ (text ++ end))) c.in_ok-put.ensures
    (after c.put.new.out.items top (between ++ (text ++ end)) c.in_ok-put_row_top.ensures
    (after c.put_row_top.new.out.items between (text ++ end) c.in_ok-put-2.ensures
    (after c.put-2.new.out.items text end c.in_ok-put_text.ensures e))))
