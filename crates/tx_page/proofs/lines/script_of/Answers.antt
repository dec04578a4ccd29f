use Rattle.std.proofs.Common.{◌++◌, [], ℕ, List, Bor, map, take_all, get_or, ap, ◌∙◌, arith}
use Rattle.tx_page.specs.Shown.{quoted_line, script_text}
use Rattle.tx_page.proofs.Told.{now, line_more}
use Rattle.tx_page.proofs.lines.script_of.Goals as goal

abbrev none : Bor (List ℕ)
none = record { ref_ptr = (0, 0); now = [] }

pub loop-line-preserved : goal.loop-line-preserved
loop-line-preserved c =
    let xs = c.args.lines.now in
    let at = c.loop-line.line-index in
    c.in_ok-put_quoted.ensures ∙ ap (λ t. t ++ quoted_line (now (get_or xs at none))) c.loop-line.invariant
    ∙ line_more xs at none c.loop-line-test.true

pub returns : goal.returns
returns c =
    let xs = c.args.lines.now in
    let at = c.loop-line.line-index in
    c.loop-line.invariant ∙ ap (λ ys. script_text (map now ys)) (take_all at xs (omega (arith, c.loop-line-test.false)))
