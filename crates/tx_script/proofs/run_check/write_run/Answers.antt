use Rattle.std.proofs.Common.{◌∷◌, [], map}
use Rattle.tx_check.specs.Steps.{step_text}
use Rattle.tx_text.specs.Texts.{line_text}
use Rattle.tx_check.specs.declared.words.Verdict.TheVariants.{Yes}
use Rattle.tx_check.specs.Words.{words}
use Rattle.tx_script.proofs.Scripts.{if_err_is}
use Rattle.tx_script.proofs.Ends.{then_ok, then_err}
use Rattle.tx_script.proofs.Begun.{appends_more, appends_after, appends_last}
use Rattle.tx_script.proofs.run_check.write_run.Goals as goal

pub returns-in_err-write_steps-clause-part : goal.returns-in_err-write_steps-clause-part
returns-in_err-write_steps-clause-part g c =
    let e = c.in_err-write_steps.field-0.0 in
    if_err_is _ _ e c.from_residual.ensures.1
    (appends_more e (g.W.Write.contents c.args.writer.now) (g.W.Write.contents c.write_steps.new.writer)
    (map step_text c.args.steps.now) (line_text (words Yes) ∷ []) c.in_err-write_steps.ensures.part)

pub returns-clause-all : goal.returns-clause-all
returns-clause-all g c = then_ok _ _ c.write_verdict.result c.write_verdict.ensures.all
    (λ done more. appends_last (g.W.Write.contents c.args.writer.now) (g.W.Write.contents c.write_steps.new.writer)
    (g.W.Write.contents c.write_verdict.new.writer) (map step_text c.args.steps.now)
    (line_text (words Yes)) c.in_ok-write_steps.ensures.all more)

pub returns-clause-part : goal.returns-clause-part
returns-clause-part g c = then_err _ _ c.write_verdict.result c.write_verdict.ensures.part
    (λ why begun. appends_after why (g.W.Write.contents c.args.writer.now) (g.W.Write.contents c.write_steps.new.writer)
    (g.W.Write.contents c.write_verdict.new.writer) (map step_text c.args.steps.now) (line_text (words Yes)
    ∷ []) c.in_ok-write_steps.ensures.all begun)
