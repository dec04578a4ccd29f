use Rattle.std.proofs.Common.{◌≡◌, ◌++◌, ℕ, List, [], get_or, sym, ap, subst, ◌∙◌}
use Rattle.std.specs.Io.KnownBytes.{Appends}
use Rattle.tx_workload.specs.Lines.{line_of}
use Rattle.tx_text.specs.Output.{AppendsPart}
use Rattle.tx_workload.proofs.WrittenLines.{on_any_err, each_more, each_none, each_part}
use Rattle.tx_workload.proofs.write.write_lines.Goals as goal

-- what is sent: the line that was put into an empty text
line_is : (bytes put cleared line is : List ℕ) → bytes ≡ put → put ≡ cleared ++ line → cleared ≡ [] → line ≡ is
    → bytes ≡ is
line_is bytes put cleared line is a b c d = a ∙ b ∙ ap (λ l. l ++ line) c ∙ d

pub returns-in_err-put_line-clause-part : goal.returns-in_err-put_line-clause-part
returns-in_err-put_line-clause-part g c =
    on_any_err _ _ (each_none line_of (λ p. p.1.now) c.args.lines.now c.lines.reply-index c.lines-item.result
    c.lines-test.true (g.W.Write.contents c.args.writer.now) (g.W.Write.contents c.lines.writer) c.lines.invariant)

pub returns-in_err-send-clause-part : goal.returns-in_err-send-clause-part
returns-in_err-send-clause-part g c =
    let mid = g.W.Write.contents c.lines.writer in
    let new = g.W.Write.contents c.send.new.writer in
    let text = line_is _ _ _ _ _ c.as_slice.ensures.value c.in_ok-put_line.ensures c.clear.ensures.items
    (ap (λ p. line_of p.1.now) c.lines-item.is) in
    on_any_err _ _ (each_part line_of (λ p. p.1.now) c.args.lines.now c.lines.reply-index c.lines-item.result
    c.lines-test.true (g.W.Write.contents c.args.writer.now) mid c.lines.invariant new
    (subst (AppendsPart mid new) text c.in_err-send.ensures.part))

pub lines-preserved : goal.lines-preserved
lines-preserved g c =
    let mid = g.W.Write.contents c.lines.writer in
    let new = g.W.Write.contents c.send.new.writer in
    let text = line_is _ _ _ _ _ c.as_slice.ensures.value c.in_ok-put_line.ensures c.clear.ensures.items
    (ap (λ p. line_of p.1.now) c.lines-item.is) in
    each_more line_of (λ p. p.1.now) c.args.lines.now c.lines.reply-index c.lines-item.result c.lines-test.true
    (g.W.Write.contents c.args.writer.now) mid c.lines.invariant new
    (subst (Appends mid new) text c.in_ok-send.ensures.all)
