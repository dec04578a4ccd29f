use Rattle.std.proofs.Common.{◌++◌, codes, ap, ◌∙◌}
use Rattle.tx_ring.specs.declared.ring.TheConstants.{FONT, LOOKS}
use Rattle.tx_ring.specs.Markup.{marked}
use Rattle.tx_ring.specs.Rings.{what_text, note_text}
use Rattle.tx_ring.proofs.Pieces.{after, on_so}
use Rattle.tx_ring.proofs.ring.put_looks.Goals as goal

pub returns : goal.returns
returns c =
    let title = marked c.args.title.now in
    let what = what_text c.args.subject in
    let note = note_text c.args.subject in
    let end = codes "</text>\n" in
    let below = codes "</text>\n<text class=\"small\" x=\"20\" y=\"48\">" in
    on_so c.put-6.result c.put-6.ensures (λ e.
    after c.args.out.now.items FONT.now (what ++ (LOOKS.now ++ (title ++ (below ++ (note ++ end)))))
    c.in_ok-put.ensures
    (after c.put.new.out.items what (LOOKS.now ++ (title ++ (below ++ (note ++ end)))) (c.in_ok-put-2.ensures ∙ ap
    (λ w. c.put.new.out.items ++ w) c.what_of.ensures)
    (after c.put-2.new.out.items LOOKS.now (title ++ (below ++ (note ++ end))) c.in_ok-put-3.ensures
    (after c.put-3.new.out.items title (below ++ (note ++ end)) c.in_ok-put_text.ensures
    (after c.put_text.new.out.items below (note ++ end) c.in_ok-put-4.ensures
    (after c.put-4.new.out.items note end (c.in_ok-put-5.ensures ∙ ap
    (λ w. c.put-4.new.out.items ++ w) c.note_of.ensures) e))))))
