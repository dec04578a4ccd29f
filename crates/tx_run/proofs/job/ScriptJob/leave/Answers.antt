use Rattle.std.proofs.Common.{inl, refl, ap, ◌∙◌, Ok}
use Rattle.tx_steps.specs.declared.op.Op.TheVariants as op
use Rattle.tx_steps.specs.declared.step.Step.TheVariants as step
use Rattle.tx_workload.specs.declared.reply.LineAnswer.TheVariants.{Plain}
use Rattle.tx_run.specs.Jobs.{Working}
use Rattle.tx_run.specs.Played.{free, live}
use Rattle.tx_run.proofs.Played.{kept_told}
use Rattle.tx_workload.proofs.Evidence.{done_tells}
use Rattle.tx_run.proofs.job.ScriptJob.leave.Goals as goal

pub report-requires-clause-tells : goal.report-requires-clause-tells
report-requires-clause-tells g c =
    done_tells g.L.Source.text g.J.JournalId.bounds c.set_state.new.self.log.told c.args.number c.new.result
    c.new.ensures
    c.requires.says

pub returns-clause-plays : goal.returns-clause-plays
returns-clause-plays g c = record {
  answer = Plain (Ok c.new.result);
  to = free c.stop.result;
  there = c.report.ensures.stands ∙ ap (λ (w : Working). w.stands) c.set_state.ensures;
  kept = kept_told c.args.self.now.log c.set_state.new.self.log c.report.new.self.log c.args.number
      (Plain (Ok c.new.result)) (ap (λ (w : Working). w.log.lost) c.set_state.ensures)
      (ap (λ (w : Working). w.log.replies) c.set_state.ensures) c.report.ensures.kept;
  plays = record {
    what = step.Act c.requires.stops.0 op.Stop;
    says = c.requires.stops.1;
    here = live c.args.session;
    hears = inl refl;
    there = free c.stop.result;
    turns = inl (c.new.ensures, c.stop.ensures);
    heard = inl refl;
  };
}
