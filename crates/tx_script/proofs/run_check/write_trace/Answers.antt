use Rattle.std.proofs.Common.{◌≡◌, ◌++◌, ◌∷◌, [], List, map, reverse, Option, Some, IfSome, sym, ap, subst, ◌∙◌}
use Rattle.std.specs.List.{concat}
use Rattle.std.specs.Io.KnownBytes.{Appends}
use Rattle.std.proofs.KnownBytes.{Keeps-refl}
use Rattle.std.proofs.lemmas.List.{reverse-reverse}
use Rattle.tx_core.specs.Histories.{History}
use Rattle.tx_core.specs.Shadow.{shadow}
use Rattle.tx_machine.specs.declared.step.Step.{Step}
use Rattle.tx_trace.specs.Traces.{Noted}
use Rattle.tx_check.specs.Steps.{step_text}
use Rattle.tx_text.specs.Texts.{line_text}
use Rattle.tx_check.specs.declared.words.Verdict.TheVariants.{Yes}
use Rattle.tx_check.specs.Words.{words}
use Rattle.tx_script.specs.Loops.{AppendsBegun, AreOf}
use Rattle.tx_script.specs.Checked.{step_lines}
use Rattle.tx_script.proofs.Begun.{appends_none}
use Rattle.tx_script.proofs.Ends.{then_ok, then_err}
use Rattle.tx_script.proofs.run_check.write_trace.Goals as goal

-- the steps, oldest first, are those of the history
steps_are : (trace : Option Noted) (t : Noted) (steps : List Step) (h : History) → trace ≡ Some t
    → reverse steps ≡ t.steps → AreOf h trace → steps ≡ reverse (shadow h)
steps_are trace t steps h is its of = sym (reverse-reverse steps) ∙ ap (reverse {A = Step})
    (its ∙ subst (λ o. IfSome o (λ u. u.steps ≡ shadow h)) is of)

pub returns-in_default-clause-part : goal.returns-in_default-clause-part
returns-in_default-clause-part g c = λ h of. appends_none _ (g.W.Write.contents c.args.writer.now)
    (g.W.Write.contents c.args.writer.now) (step_lines h) (Keeps-refl _)

pub returns-clause-all : goal.returns-clause-all
returns-clause-all g c = then_ok _ _ c.write_run.result c.write_run.ensures.all
    (λ done all h of. subst (λ (steps : List Step). Appends (g.W.Write.contents c.args.writer.now)
    (g.W.Write.contents c.write_run.new.writer) (concat (map step_text steps ++ line_text (words Yes) ∷ [])))
    (steps_are c.args.trace c.in-Some.trace c.steps.result.now h c.in-Some.is c.steps.ensures of) all)

pub returns-clause-part : goal.returns-clause-part
returns-clause-part g c = then_err _ _ c.write_run.result c.write_run.ensures.part
    (λ why begun h of. subst (λ (steps : List Step). AppendsBegun why (g.W.Write.contents c.args.writer.now)
    (g.W.Write.contents c.write_run.new.writer) (map step_text steps ++ line_text (words Yes) ∷ []))
    (steps_are c.args.trace c.in-Some.trace c.steps.result.now h c.in-Some.is c.steps.ensures of) begun)
