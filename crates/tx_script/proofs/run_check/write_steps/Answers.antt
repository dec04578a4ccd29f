use Rattle.std.proofs.Common.{◌≡◌, ℕ, List, [], ◌++◌, get_or, ap, subst, ◌∙◌}
use Rattle.std.specs.Io.KnownBytes.{Appends}
use Rattle.tx_text.specs.Output.{AppendsPart}
use Rattle.tx_check.specs.Steps.{step_text}
use Rattle.tx_script.proofs.Scripts.{if_err_is, if_any_err}
use Rattle.tx_script.proofs.Begun.{each_more, each_none, each_part}
use Rattle.tx_script.proofs.run_check.write_steps.Goals as goal

-- what is sent: the line that was put into an empty text
line_is : (bytes put cleared line is : List ℕ) → bytes ≡ put → put ≡ cleared ++ line → cleared ≡ [] → line ≡ is
    → bytes ≡ is
line_is bytes put cleared line is a b c d = a ∙ b ∙ ap (λ l. l ++ line) c ∙ d

pub returns-in_err-put_step-clause-part : goal.returns-in_err-put_step-clause-part
returns-in_err-put_step-clause-part g c =
    if_any_err _ (each_none step_text c.args.steps.now c.steps.step-index c.step-item.result c.steps-test.true
    (g.W.Write.contents c.args.writer.now) (g.W.Write.contents c.steps.writer) c.steps.invariant)

pub returns-in_err-send-clause-part : goal.returns-in_err-send-clause-part
returns-in_err-send-clause-part g c =
    let mid = g.W.Write.contents c.steps.writer in
    let new = g.W.Write.contents c.send.new.writer in
    let text : c.as_slice.result.now ≡ step_text (get_or c.args.steps.now c.steps.step-index c.step-item.result) =
    line_is _ _ _ _ _ c.as_slice.ensures.value c.in_ok-put_step.ensures c.clear.ensures.items
    (ap step_text c.step-item.is) in
    let e = c.in_err-send.field-0.0 in
    if_err_is _ _ e c.from_residual-in_err-send.ensures.1
    (each_part step_text c.args.steps.now c.steps.step-index c.step-item.result c.steps-test.true
    (g.W.Write.contents c.args.writer.now) mid c.steps.invariant e new
    (subst (AppendsPart mid new) text c.in_err-send.ensures.part) c.in_err-send.ensures.err)

pub steps-preserved : goal.steps-preserved
steps-preserved g c =
    let mid = g.W.Write.contents c.steps.writer in
    let new = g.W.Write.contents c.send.new.writer in
    let text : c.as_slice.result.now ≡ step_text (get_or c.args.steps.now c.steps.step-index c.step-item.result) =
    line_is _ _ _ _ _ c.as_slice.ensures.value c.in_ok-put_step.ensures c.clear.ensures.items
    (ap step_text c.step-item.is) in
    each_more step_text c.args.steps.now c.steps.step-index c.step-item.result c.steps-test.true
    (g.W.Write.contents c.args.writer.now) mid c.steps.invariant new
    (subst (Appends mid new) text c.in_ok-send.ensures.all)
