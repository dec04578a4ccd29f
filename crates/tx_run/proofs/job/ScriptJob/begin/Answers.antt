use Rattle.std.proofs.Common.{Ok, inl, refl, ap, ◌∙◌}
use Rattle.tx_journal.specs.Known.{Known}
use Rattle.tx_steps.specs.declared.step.Step.TheVariants as step
use Rattle.tx_workload.specs.declared.reply.LineAnswer.TheVariants.{Plain}
use Rattle.tx_run.specs.Jobs.{Working}
use Rattle.tx_run.specs.Played.{at, free}
use Rattle.tx_run.proofs.Played.{kept_told}
use Rattle.tx_workload.proofs.Evidence.{session_step}
use Rattle.tx_run.proofs.job.ScriptJob.begin.Goals as goal

pub report_refusal-requires-clause-says : goal.report_refusal-requires-clause-says
report_refusal-requires-clause-says g c = session_step g.L.Source.text c.args.number c.requires.says

pub returns-in-Err-clause-plays : goal.returns-in-Err-clause-plays
returns-in-Err-clause-plays g c = record {
  answer = Plain (Ok c.new.result);
  to = free c.args.seat;
  there = c.report_refusal.ensures.stands ∙ ap (λ (w : Working). w.stands) c.set_state.ensures
      ∙ ap (λ (k : Known). at (free k)) c.in-Err.ensures.spent.0;
  kept = kept_told c.args.self.now.log c.set_state.new.self.log c.report_refusal.new.self.log c.args.number
      (Plain (Ok c.new.result)) (ap (λ (w : Working). w.log.lost) c.set_state.ensures)
      (ap (λ (w : Working). w.log.replies) c.set_state.ensures) c.report_refusal.ensures.answered;
  plays = record {
    what = step.Begin c.requires.begins.0;
    says = c.requires.begins.2;
    here = free c.args.seat;
    hears = inl refl;
    there = free c.args.seat;
    turns = inl (c.requires.begins.1, inl (c.new.ensures, c.in-Err.ensures.spent.1, refl));
    heard = inl refl;
  };
}
