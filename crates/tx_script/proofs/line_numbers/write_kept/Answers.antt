use Rattle.std.proofs.Common.{◌≡◌, ◌++◌, ◌∷◌, [], ℕ, List, map, reverse, Option, Some, None, IfSome, option_map, sym, ap, subst, ◌∙◌}
use Rattle.std.specs.List.{concat, zip}
use Rattle.std.specs.Io.KnownBytes.{Appends}
use Rattle.std.proofs.KnownBytes.{Keeps-refl}
use Rattle.std.proofs.lemmas.List.{reverse-reverse}
use Rattle.tx_core.specs.Histories.{History}
use Rattle.tx_core.specs.Shadow.{shadow}
use Rattle.tx_machine.specs.declared.step.Step.{Step}
use Rattle.tx_trace.specs.Traces.{Noted}
use Rattle.tx_text.specs.declared.end.Broken.{Broken}
use Rattle.tx_text.specs.declared.end.End.TheVariants.{Well}
use Rattle.tx_check.specs.Steps.{beside_text}
use Rattle.tx_text.specs.Texts.{line_text}
use Rattle.tx_check.specs.declared.words.Verdict.TheVariants.{Yes}
use Rattle.tx_check.specs.Words.{words}
use Rattle.tx_script.specs.Numbered.{numbered_lines}
use Rattle.tx_script.specs.Loops.{AppendsBegun, AreOf, TellsNumbers, BeginsNumbers}
use Rattle.tx_script.proofs.Begun.{appends_none}
use Rattle.tx_script.proofs.Ends.{then_ok, then_err}
use Rattle.tx_script.proofs.line_numbers.write_kept.Goals as goal

-- the steps, oldest first, are those of the history
steps_are : (trace : Option Noted) (t : Noted) (steps : List Step) (h : History) → trace ≡ Some t
    → reverse steps ≡ t.steps → AreOf h trace → steps ≡ reverse (shadow h)
steps_are trace t steps h is its of = sym (reverse-reverse steps) ∙ ap (reverse {A = Step})
    (its ∙ subst (λ o. IfSome o (λ u. u.steps ≡ shadow h)) is of)

-- nothing was written
none_begun : (why : Broken) (h : History) (numbers : Option (List ℕ)) (old : Option (List ℕ))
    → BeginsNumbers why h numbers old old
none_begun why h None old = Keeps-refl old
none_begun why h (Some ns) old = appends_none why old old (numbered_lines ns h) (Keeps-refl old)

pub returns-in_default-clause-part : goal.returns-in_default-clause-part
returns-in_default-clause-part g c = λ h of. none_begun _ h (option_map (λ v. v.items) c.args.numbers)
    (g.W.Write.contents c.args.writer.now)

pub returns-clause-all : goal.returns-clause-all
returns-clause-all g c =
    let old = g.W.Write.contents c.args.writer.now in
    let new = g.W.Write.contents c.write_run.new.writer in
    then_ok _ _ c.write_run.result c.write_run.ensures.all
    (λ done all h of. rw c.in-Some-numbers.is
    (subst (λ (steps : List Step). Appends old new (concat (map beside_text (zip c.in-Some-numbers.numbers.items steps)
    ++ line_text (words Yes) ∷ [])))
    (steps_are c.args.trace c.in-Some.trace c.steps.result.now h c.in-Some.is c.steps.ensures of)
    (subst (λ (ns : List ℕ). Appends old new (concat (map beside_text (zip ns c.steps.result.now)
    ++ line_text (words Yes) ∷ []))) c.as_slice.ensures.value all)))

pub returns-clause-part : goal.returns-clause-part
returns-clause-part g c =
    let old = g.W.Write.contents c.args.writer.now in
    let new = g.W.Write.contents c.write_run.new.writer in
    then_err _ _ c.write_run.result c.write_run.ensures.part
    (λ why begun h of. rw c.in-Some-numbers.is
    (subst (λ (steps : List Step). AppendsBegun why old new (map beside_text (zip c.in-Some-numbers.numbers.items steps)
    ++ line_text (words Yes) ∷ []))
    (steps_are c.args.trace c.in-Some.trace c.steps.result.now h c.in-Some.is c.steps.ensures of)
    (subst (λ (ns : List ℕ). AppendsBegun why old new (map beside_text (zip ns c.steps.result.now)
    ++ line_text (words Yes) ∷ [])) c.as_slice.ensures.value begun)))
