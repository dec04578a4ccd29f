use Rattle.std.proofs.Common.{◌++◌, codes}
use Rattle.tx_ring.specs.Markup.{marked}
use Rattle.tx_ring.specs.Rings.{place_text}
use Rattle.tx_ring.proofs.Pieces.{after, on_so}
use Rattle.tx_ring.proofs.ring.put_box.Goals as goal

pub returns : goal.returns
returns c =
    let place = place_text c.args.rows c.args.place c.args.kind.now in
    let begun = codes "\" rx=\"6\"/>\n<text x=\"12\" y=\"18\">transaction " in
    let name = marked c.args.name.now in
    let between = codes "</text>\n<text class=\"small\" x=\"12\" y=\"33\">" in
    let about = marked c.args.about.now in
    let end = codes "</text>\n" in
    on_so c.put-3.result c.put-3.ensures (λ e.
    after c.args.out.now.items place (begun ++ (name ++ (between ++ (about ++ end)))) c.in_ok-put_place.ensures
    (after c.put_place.new.out.items begun (name ++ (between ++ (about ++ end))) c.in_ok-put.ensures
    (after c.put.new.out.items name (between ++ (about ++ end)) c.in_ok-put_text.ensures
    (after c.put_text.new.out.items between (about ++ end) c.in_ok-put-2.ensures
    (after c.put-2.new.out.items about end c.in_ok-put_text-2.ensures e)))))
