use Rattle.std.proofs.Common.{Ok, inl, inr, refl, ap, sym, subst, ◌∙◌}
use Rattle.tx_client.specs.Calls.{Seated}
use Rattle.tx_steps.specs.declared.step.Step.TheVariants as step
use Rattle.tx_run.specs.Played.{at, free, live}
use Rattle.tx_transfer.specs.Steps.{Left}
use Rattle.tx_run.proofs.Played.{kept_told}
use Rattle.tx_reply.specs.declared.reply.ScriptReply.TheVariants as reply
use Rattle.tx_workload.specs.declared.reply.LineAnswer.TheVariants.{Plain}
use Rattle.tx_run.specs.Jobs.{Working}
use Rattle.tx_workload.specs.Logs.{answer_to}
use Rattle.tx_workload.specs.Tells.{TellsLine}
use Rattle.tx_workload.proofs.Evidence.{session_step, start_tells}
use Rattle.tx_run.proofs.AnsweredLines.{may_heard, may_still}
use Rattle.tx_run.proofs.job.ScriptJob.on_begun.Goals as goal

pub report-requires-clause-tells : goal.report-requires-clause-tells
report-requires-clause-tells g c =
    let source = g.L.Source.text in
    let bounds = g.J.JournalId.bounds in
    let is = c.new-in-Ok.ensures ∙ ap reply.Start c.start-start.ensures in
    subst (λ (w : Working). TellsLine source bounds w.log.told
    (answer_to c.args.number (Plain (Ok c.new-in-Ok.result))))
    (sym c.set_state.ensures)
    (start_tells source bounds c.hear.new.self.log.told c.args.number c.args.session c.new-in-Ok.result is
    c.requires.says
    c.requires.begun c.hear.ensures.knows)

pub report-requires-clause-may : goal.report-requires-clause-may
report-requires-clause-may g c =
    let heard = c.hear.new.self in
    may_still heard c.set_state.new.self _ c.set_state.ensures
    (may_heard c.args.self.now heard heard.log.told c.args.number c.hear.ensures.job c.requires.may).1

pub stop-requires-clause-may : goal.stop-requires-clause-may
stop-requires-clause-may g c =
    let heard = c.hear.new.self in
    may_heard c.args.self.now heard heard.log.told c.args.number c.hear.ensures.job c.requires.may

pub stop-requires-clause-says : goal.stop-requires-clause-says
stop-requires-clause-says g c = session_step g.L.Source.text c.args.number c.requires.says

pub returns-in-Ok-clause-plays : goal.returns-in-Ok-clause-plays
returns-in-Ok-clause-plays g c k begun =
    let is = c.new-in-Ok.ensures ∙ ap reply.Start c.start-start.ensures in
    let now = c.hear.new.session in record {
      answer = Plain (Ok c.new-in-Ok.result);
      to = live now;
      there = c.report.ensures.stands ∙ ap (λ (w : Working). w.stands) c.set_state.ensures
          ∙ ap (λ (s : Seated). at (live s)) c.in-Ok.ensures.ok;
      kept = kept_told c.args.self.now.log c.set_state.new.self.log c.report.new.self.log c.args.number
          (Plain (Ok c.new-in-Ok.result))
          (ap (λ (w : Working). w.log.lost) c.set_state.ensures ∙ ap (λ (w : Working). w.log.lost) c.hear.ensures.job)
          (ap (λ (w : Working). w.log.replies) c.set_state.ensures
          ∙ ap (λ (w : Working). w.log.replies) c.hear.ensures.job)
          c.report.ensures.kept;
      plays = record {
        what = step.Begin c.requires.begins.0;
        says = c.requires.begins.2;
        here = free k;
        hears = inl refl;
        there = live c.args.session;
        turns = inl (c.requires.begins.1, is, begun);
        heard = inr (c.hear.ensures.state, _, c.hear.ensures.heard);
      };
    }

pub returns-in-Err-clause-plays : goal.returns-in-Err-clause-plays
returns-in-Err-clause-plays g c k begun =
    let bounds = g.J.JournalId.bounds in
    let now = c.hear.new.session in
    let stopped = c.stop.ensures.stopped in
    let left = subst (λ (s : Seated). Left bounds s stopped.seat) c.in-Err.ensures.value_returned stopped.left
    in record {
      answer = Plain (Ok c.new-in-Err.result);
      to = free stopped.seat;
      there = stopped.there;
      kept = kept_told c.args.self.now.log c.hear.new.self.log c.stop.new.self.log c.args.number
          (Plain (Ok c.new-in-Err.result))
          (ap (λ (w : Working). w.log.lost) c.hear.ensures.job)
          (ap (λ (w : Working). w.log.replies) c.hear.ensures.job)
          stopped.kept;
      plays = record {
        what = step.Begin c.requires.begins.0;
        says = c.requires.begins.2;
        here = free k;
        hears = inl refl;
        there = free stopped.seat;
        turns = inl (
          c.requires.begins.1,
          inr (
            c.new-in-Err.ensures,
            c.args.session,
            now,
            begun,
            (c.hear.ensures.state, c.args.self.now.log.told, c.hear.ensures.heard),
            left,
          ),
        );
        heard = inl refl;
      };
    }
