use Rattle.std.proofs.Common.{◌≡◌, None, Err, inl, inr, refl, ap, sym, subst, ◌∙◌}
use Rattle.tx_types.specs.declared.fault.Cause.TheVariants.{Order}
use Rattle.tx_client.specs.Calls.{seated}
use Rattle.tx_steps.specs.declared.op.Op.TheVariants as op
use Rattle.tx_steps.specs.declared.step.Step.TheVariants as step
use Rattle.tx_transaction.specs.Sessions.{SessionState, finish_of}
use Rattle.tx_workload.specs.declared.reply.LineAnswer.TheVariants.{Plain, Ended}
use Rattle.tx_workload.specs.Logs.{KeepsAnswer, Logged}
use Rattle.tx_run.specs.Jobs.{Working}
use Rattle.tx_run.specs.Played.{free, live}
use Rattle.tx_run.proofs.Played.{kept_told}
use Rattle.tx_run.proofs.job.ScriptJob.finish.Goals as goal

pub returns-in-Ok-clause-plays : goal.returns-in-Ok-clause-plays
returns-in-Ok-clause-plays g c =
    let f = c.in-Ok.ensures.finished in
    let start = c.args.session.state.start in record {
      answer = Ended start f.0 None;
      to = free c.in-Ok.seat;
      there = ap (λ (w : Working). w.stands) c.set_state.ensures;
      kept = subst (λ (l : Logged). KeepsAnswer c.args.self.now.log c.args.number (Ended start f.0 None) l)
          (sym (ap (λ (w : Working). w.log) c.set_state.ensures)) f.2;
      plays = record {
        what = step.Act c.requires.finishes.0 op.Finish;
        says = c.requires.finishes.1;
        here = live (seated c.args.session.state f.1.mid);
        hears = inr (refl, c.args.self.now.log.told, f.1.heard);
        there = free c.in-Ok.seat;
        turns = inl (refl, f.1.is, f.1.records);
        heard = inl refl;
      };
    }

pub returns-in-Err-clause-plays : goal.returns-in-Err-clause-plays
returns-in-Err-clause-plays g c =
    let e = c.in-Err.ensures.open_yet in
    let same = ap (λ (w : Working). w.log) (c.set_state-in-Err.ensures)
    ∙ ap (λ (w : Working). w.log) c.in-Err.ensures.none in record {
      answer = Plain (Err Order);
      to = free c.stop.result;
      there = c.fail.ensures.stands ∙ ap (λ (w : Working). w.stands) c.set_state-in-Err.ensures;
      kept = kept_told c.args.self.now.log c.set_state-in-Err.new.self.log c.fail.new.self.log c.args.number
          (Plain (Err Order)) (ap (λ (l : Logged). l.lost) same) (ap (λ (l : Logged). l.replies) same)
          c.fail.ensures.kept;
      plays = record {
        what = step.Act c.requires.finishes.0 op.Finish;
        says = c.requires.finishes.1;
        here = live c.in-Err.session;
        hears = inr (e.1, c.args.self.now.log.told, e.2);
        there = free c.stop.result;
        turns = inl (refl, subst (λ (s : SessionState). finish_of s ≡ None) (sym e.1) e.0, c.stop.ensures);
        heard = inl refl;
      };
    }
