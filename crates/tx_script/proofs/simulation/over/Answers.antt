use Rattle.std.proofs.Common.{◌+◌, ℕ, List, sym, subst, arith}
use Rattle.std.proofs.KnownBytes.{Keeps-refl}
use Rattle.tx_types.specs.declared.key.Key.{Key}
use Rattle.tx_types.specs.declared.limits.TheConstants.{MAX_LINES}
use Rattle.tx_text.specs.declared.end.Broken.{Broken}
use Rattle.tx_script.specs.Play.{EndsLines, BreaksLines}
use Rattle.tx_script.specs.Checked.{EndsCheckedLines, BreaksCheckedLines}
use Rattle.tx_script.specs.Numbered.{EndsNumberedLines, BreaksNumberedLines}
use Rattle.tx_script.specs.declared.asked.Asked.{Asked}
use Rattle.tx_script.specs.Loops.{Ahead, EndsAsked, BreaksAsked}
use Rattle.tx_script.specs.Stages.{NotesStage}
use Rattle.tx_script.proofs.Scripts.{if_any_err}
use Rattle.tx_script.proofs.Ends.{then_ok, then_err}
use Rattle.tx_script.proofs.Checks.{breaks_first_asked}
use Rattle.tx_script.proofs.simulation.over.Goals as goal

pub returns-in_err-engine-clause-breaks : goal.returns-in_err-engine-clause-breaks
returns-in_err-engine-clause-breaks g c =
    let old = g.W.Write.contents c.args.writer.now in
    let first : (why : Broken) (lines : List (List ℕ))
    → Ahead c.args.first c.args.line.now.items (g.R.Read.remaining c.args.reader.now) lines
    → BreaksAsked c.args.asked c.args.opened.bounds why lines old old =
    λ why lines a. breaks_first_asked c.args.asked c.args.opened.bounds why lines old old (Keeps-refl old) in
    if_any_err _ first

pub check_over-requires-clause-ready : goal.check_over-requires-clause-ready
check_over-requires-clause-ready g c = c.in_ok-engine.ensures.ready (MAX_LINES + 1) (omega arith)

pub number_over-requires-clause-ready : goal.number_over-requires-clause-ready
number_over-requires-clause-ready g c = c.in_ok-engine.ensures.ready (MAX_LINES + 1) (omega arith)

pub simulate_over-requires-clause-ready : goal.simulate_over-requires-clause-ready
simulate_over-requires-clause-ready g c = c.in_ok-engine.ensures.ready (MAX_LINES + 1) (omega arith)

pub returns-in-Replies-clause-ends : goal.returns-in-Replies-clause-ends
returns-in-Replies-clause-ends g c = then_ok _ _ c.simulate_over.result c.simulate_over.ensures.ends
    (λ end h lines a. subst (λ (b : Asked). EndsAsked b c.args.opened.bounds lines
    (g.W.Write.contents c.args.writer.now) (g.W.Write.contents c.simulate_over.new.writer) end) (sym c.in-Replies.is)
    (subst (λ (bounds : List Key). EndsLines bounds lines (g.W.Write.contents c.args.writer.now)
    (g.W.Write.contents c.simulate_over.new.writer) end) (sym c.requires.named.1) (h lines a)))

pub returns-in-Replies-clause-breaks : goal.returns-in-Replies-clause-breaks
returns-in-Replies-clause-breaks g c = then_err _ _ c.simulate_over.result c.simulate_over.ensures.breaks
    (λ why h lines a. subst (λ (b : Asked). BreaksAsked b c.args.opened.bounds why lines
    (g.W.Write.contents c.args.writer.now) (g.W.Write.contents c.simulate_over.new.writer)) (sym c.in-Replies.is)
    (subst (λ (bounds : List Key). BreaksLines bounds why lines (g.W.Write.contents c.args.writer.now)
    (g.W.Write.contents c.simulate_over.new.writer)) (sym c.requires.named.1) (h lines a)))

pub returns-in-Steps-clause-ends : goal.returns-in-Steps-clause-ends
returns-in-Steps-clause-ends g c = then_ok _ _ c.check_over.result c.check_over.ensures.ends
    (λ end h lines a. subst (λ (b : Asked). EndsAsked b c.args.opened.bounds lines
    (g.W.Write.contents c.args.writer.now) (g.W.Write.contents c.check_over.new.writer) end) (sym c.in-Steps.is)
    (subst (λ (bounds : List Key). EndsCheckedLines bounds lines (g.W.Write.contents c.args.writer.now)
    (g.W.Write.contents c.check_over.new.writer) end) (sym c.requires.named.1) (h lines a)))

pub returns-in-Steps-clause-breaks : goal.returns-in-Steps-clause-breaks
returns-in-Steps-clause-breaks g c = then_err _ _ c.check_over.result c.check_over.ensures.breaks
    (λ why h lines a. subst (λ (b : Asked). BreaksAsked b c.args.opened.bounds why lines
    (g.W.Write.contents c.args.writer.now) (g.W.Write.contents c.check_over.new.writer)) (sym c.in-Steps.is)
    (subst (λ (bounds : List Key). BreaksCheckedLines bounds why lines (g.W.Write.contents c.args.writer.now)
    (g.W.Write.contents c.check_over.new.writer)) (sym c.requires.named.1) (h lines a)))

pub returns-in-NumberedSteps-clause-ends : goal.returns-in-NumberedSteps-clause-ends
returns-in-NumberedSteps-clause-ends g c = then_ok _ _ c.number_over.result c.number_over.ensures.ends
    (λ end h lines a. subst (λ (b : Asked). EndsAsked b c.args.opened.bounds lines
    (g.W.Write.contents c.args.writer.now) (g.W.Write.contents c.number_over.new.writer) end)
    (sym c.in-NumberedSteps.is)
    (subst (λ (bounds : List Key). EndsNumberedLines bounds lines (g.W.Write.contents c.args.writer.now)
    (g.W.Write.contents c.number_over.new.writer) end) (sym c.requires.named.1) (h lines a)))

pub returns-in-NumberedSteps-clause-breaks : goal.returns-in-NumberedSteps-clause-breaks
returns-in-NumberedSteps-clause-breaks g c = then_err _ _ c.number_over.result c.number_over.ensures.breaks
    (λ why h lines a. subst (λ (b : Asked). BreaksAsked b c.args.opened.bounds why lines
    (g.W.Write.contents c.args.writer.now) (g.W.Write.contents c.number_over.new.writer)) (sym c.in-NumberedSteps.is)
    (subst (λ (bounds : List Key). BreaksNumberedLines bounds why lines (g.W.Write.contents c.args.writer.now)
    (g.W.Write.contents c.number_over.new.writer)) (sym c.requires.named.1) (h lines a)))

pub returns-in-Replies-clause-staged : goal.returns-in-Replies-clause-staged
returns-in-Replies-clause-staged g c = then_ok _ _ c.simulate_over.result c.simulate_over.ensures.staged
    (λ end h lines a. subst (λ (bounds : List Key). NotesStage bounds lines c.simulate_over.new.stage)
    (sym c.requires.named.1) (h lines a))

pub returns-in-Steps-clause-staged : goal.returns-in-Steps-clause-staged
returns-in-Steps-clause-staged g c = then_ok _ _ c.check_over.result c.check_over.ensures.staged
    (λ end h lines a. subst (λ (bounds : List Key). NotesStage bounds lines c.check_over.new.stage)
    (sym c.requires.named.1) (h lines a))

pub returns-in-NumberedSteps-clause-staged : goal.returns-in-NumberedSteps-clause-staged
returns-in-NumberedSteps-clause-staged g c = then_ok _ _ c.number_over.result c.number_over.ensures.staged
    (λ end h lines a. subst (λ (bounds : List Key). NotesStage bounds lines c.number_over.new.stage)
    (sym c.requires.named.1) (h lines a))
