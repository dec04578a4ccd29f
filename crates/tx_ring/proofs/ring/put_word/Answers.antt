use Rattle.std.proofs.Common.{◌+◌, ◌++◌, codes}
use Rattle.std.specs.Prelude.{decimal}
use Rattle.tx_ring.specs.Markup.{marked}
use Rattle.tx_ring.specs.Rings.{high_of}
use Rattle.tx_ring.proofs.Pieces.{after, on_so}
use Rattle.tx_ring.proofs.ring.put_word.Goals as goal

pub returns : goal.returns
returns c =
    let start = codes "<text class=\"" in
    let class = c.args.class.now in
    let turn = codes "\" x=\"104\" y=\"" in
    let top = decimal (high_of c.args.rows + c.args.below) in
    let between = codes "\">" in
    let words = marked c.args.words.now in
    let end = codes "</text>\n" in
    on_so c.put-5.result c.put-5.ensures (λ e.
    after c.args.out.now.items start (class ++ (turn ++ (top ++ (between ++ (words ++ end))))) c.in_ok-put.ensures
    (after c.put.new.out.items class (turn ++ (top ++ (between ++ (words ++ end)))) c.in_ok-put-2.ensures
    (after c.put-2.new.out.items turn (top ++ (between ++ (words ++ end))) c.in_ok-put-3.ensures
    (after c.put-3.new.out.items top (between ++ (words ++ end)) c.in_ok-put_below.ensures
    (after c.put_below.new.out.items between (words ++ end) c.in_ok-put-4.ensures
    (after c.put-4.new.out.items words end c.in_ok-put_text.ensures e))))))
