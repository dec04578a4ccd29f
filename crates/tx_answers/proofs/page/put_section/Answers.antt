use Rattle.std.proofs.Common.{◌++◌, codes}
use Rattle.tx_ring.specs.Markup.{marked}
use Rattle.tx_text.proofs.Texts.{if_ok}
use Rattle.tx_ring.proofs.Pieces.{after}
use Rattle.tx_answers.proofs.page.put_section.Goals as goal

pub returns : goal.returns
returns c =
    let start = codes "<section>\n<pre>" in
    let line = marked c.args.line.now in
    let between = codes "</pre>\n<p>" in
    let why = marked c.args.why.now in
    let above = codes "</p>\n" in
    let pictures = c.args.pictures.now in
    let end = codes "</section>\n" in
    if_ok c.extend_from_slice-5.result _ _ _ c.extend_from_slice-5.ensures.items (λ e.
    after c.args.out.now.items start (line ++ (between ++ (why ++ (above ++ (pictures ++ end)))))
    c.in_ok-extend_from_slice.ensures.items
    (after c.extend_from_slice.new.self.items line (between ++ (why ++ (above ++ (pictures ++ end))))
    c.in_ok-put_text.ensures
    (after c.put_text.new.out.items between (why ++ (above ++ (pictures ++ end)))
    c.in_ok-extend_from_slice-2.ensures.items
    (after c.extend_from_slice-2.new.self.items why (above ++ (pictures ++ end)) c.in_ok-put_text-2.ensures
    (after c.put_text-2.new.out.items above (pictures ++ end) c.in_ok-extend_from_slice-3.ensures.items
    (after c.extend_from_slice-3.new.self.items pictures end c.in_ok-extend_from_slice-4.ensures.items e))))))
