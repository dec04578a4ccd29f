use Rattle.std.proofs.Common.{ap, ◌∙◌, sym, subst}
use Rattle.tx_text.specs.Lines.{lines_of}
use Rattle.tx_check.specs.Check.{end_of}
use Rattle.tx_check.specs.Turns.{IsKept}
use Rattle.tx_check.proofs.Told.{if_three, ends_so, breaks_so, if_err_is}
use Rattle.tx_check.proofs.checker.check_with_reason.Goals as goal

pub returns-clause-ends : goal.returns-clause-ends
returns-clause-ends g c =
    let old = g.W.Write.contents c.args.writer.now in
    let new = g.W.Write.contents c.write_out.new.writer in
    if_three _
    (λ input verdict stops kept. ends_so input _ c.as_slice-2.result.now c.as_slice-2.ensures.value verdict
    (c.in_ok-text.ensures (lines_of input) stops
    (subst (IsKept (lines_of input) _) (sym c.as_slice.ensures.value) kept)) old new
    c.end_of_check.result (c.end_of_check.ensures ∙ ap end_of c.verdict.ensures) c.in_ok-write_out.ensures.all)
    c.in_ok-walked.ensures.verdict c.in_ok-walked.ensures.stops c.in_ok-walked.ensures.kept

pub returns-in_err-write_out-clause-breaks : goal.returns-in_err-write_out-clause-breaks
returns-in_err-write_out-clause-breaks g c =
    let old = g.W.Write.contents c.args.writer.now in
    let new = g.W.Write.contents c.write_out.new.writer in
    let e = c.in_err-write_out.field-0.0 in
    if_err_is _ _ e c.from_residual-in_err-write_out.ensures.1
    (if_three _
    (λ input verdict stops kept. breaks_so input _ c.as_slice-2.result.now c.as_slice-2.ensures.value verdict
    (c.in_ok-text.ensures (lines_of input) stops
    (subst (IsKept (lines_of input) _) (sym c.as_slice.ensures.value) kept)) old new
    e c.in_err-write_out.ensures.err c.in_err-write_out.ensures.part)
    c.in_ok-walked.ensures.verdict c.in_ok-walked.ensures.stops c.in_ok-walked.ensures.kept)
