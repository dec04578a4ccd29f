use Rattle.std.proofs.Common.{List, ℕ, Ok, inl, inr, refl, ap, sym, subst, ◌∙◌}
use Rattle.tx_steps.specs.declared.program.Program.TheVariants.{Run}
use Rattle.tx_evidence.specs.Lines.{step_by}
use Rattle.tx_workload.specs.declared.reply.LineAnswer.TheVariants.{Plain}
use Rattle.tx_run.proofs.Played.{says_one, says_some}
use Rattle.tx_steps.specs.Lines.{data_of}
use Rattle.tx_transfer.specs.Sources.{HasLine}
use Rattle.tx_workload.proofs.Evidence.{step_made}
use Rattle.tx_workload.proofs.Sources.{pair_made}
use Rattle.tx_run.proofs.job.ScriptJob.play.Goals as goal

pub make-requires-clause-pair : goal.make-requires-clause-pair
make-requires-clause-pair g c =
    let number = c.args.script_line.now.number in
    let line = subst (λ (l : List ℕ). HasLine g.L.Source.text number l) (sym c.as_slice.ensures.value)
    c.args.script_line.now.line in
    let is = rw c.in-Ok-Ok.field-0-is at c.in-Ok-Ok.ensures.ok in
    let said = rw c.in-Some.is at c.step.ensures.said in
    pair_made g.L.Source.text number c.as_slice.result.now (data_of c.in-Ok-Ok.line) c.in-Some.step line is said

pub make-requires-clause-says : goal.make-requires-clause-says
make-requires-clause-says g c =
    let number = c.args.script_line.now.number in
    let line = subst (λ (l : List ℕ). HasLine g.L.Source.text number l) (sym c.as_slice.ensures.value)
    c.args.script_line.now.line in
    let is = rw c.in-Ok-Ok.field-0-is at c.in-Ok-Ok.ensures.ok in
    let said = rw c.in-Some.is at c.step.ensures.said in
    step_made g.L.Source.text number c.as_slice.result.now (data_of c.in-Ok-Ok.line) c.in-Some.step line is said

pub make-requires-clause-step : goal.make-requires-clause-step
make-requires-clause-step g c = c.args.script_line.now.says

pub returns-in-Ok-Ok-clause-plays : goal.returns-in-Ok-Ok-clause-plays
returns-in-Ok-Ok-clause-plays g c known from here =
    let number = c.args.script_line.now.number in
    let line = subst (λ (l : List ℕ). HasLine g.L.Source.text number l) (sym c.as_slice.ensures.value)
    c.args.script_line.now.line in
    let is = rw c.in-Ok-Ok.field-0-is at c.in-Ok-Ok.ensures.ok in
    let said = rw c.in-None.is at c.step.ensures.said in
    says_one g.L.Source.text number c.as_slice.result.now _ line (ap (step_by Run) is ∙ sym said)
    c.args.script_line.now.says known

pub returns-in-Ok-Err-clause-plays : goal.returns-in-Ok-Err-clause-plays
returns-in-Ok-Err-clause-plays g c known from here =
    let number = c.args.script_line.now.number in
    let line = subst (λ (l : List ℕ). HasLine g.L.Source.text number l) (sym c.as_slice.ensures.value)
    c.args.script_line.now.line in
    let is = rw c.in-Ok-Err.field-0-is at c.in-Ok-Err.ensures.ok in
    says_one g.L.Source.text number c.as_slice.result.now _ line (ap (step_by Run) is)
    c.args.script_line.now.says known

pub returns-clause-plays : goal.returns-clause-plays
returns-clause-plays g c known from here =
    let number = c.args.script_line.now.number in
    let step = says_some g.L.Source.text number c.args.script_line.now.says in
    inl (record {
      answer = Plain (Ok c.new.result);
      to = from;
      there = c.report_refusal.ensures.stands ∙ here;
      kept = c.report_refusal.ensures.answered;
      plays = record {
        what = step.0;
        says = step.1;
        here = from;
        hears = inl refl;
        there = from;
        turns = inr (c.new.ensures, refl);
        heard = inl refl;
      };
    })
