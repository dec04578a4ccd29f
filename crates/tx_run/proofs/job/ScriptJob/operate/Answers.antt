use Rattle.std.proofs.Common.{◌+◌, inl, inr, refl, ap, sym, subst, ◌∙◌}
use Rattle.tx_client.specs.Calls.{Seated}
use Rattle.tx_core.specs.Histories.{Begins}
use Rattle.tx_steps.specs.Steps.{asked}
use Rattle.tx_workload.specs.declared.reply.LineAnswer.TheVariants.{Plain}
use Rattle.tx_run.specs.Jobs.{Working}
use Rattle.tx_run.specs.Played.{Makes, WasMade, live}
use Rattle.tx_run.specs.Transfers.{HearsMore}
use Rattle.tx_workload.specs.Logs.{Logged}
use Rattle.tx_run.proofs.Played.{kept_told, turns_live}
use Rattle.tx_transfer.specs.Replies.{said_of}
use Rattle.tx_workload.specs.Logs.{answer_to}
use Rattle.tx_workload.specs.Tells.{AreEntered, EnteredBy, TellsLine}
use Rattle.tx_evidence.specs.Buffers.{AllBy}
use Rattle.tx_transaction.specs.Sessions.{SessionState}
use Rattle.tx_workload.proofs.Evidence.{answer_tells, line_tells_on}
use Rattle.tx_run.proofs.OwnLines.{later_entered}
use Rattle.tx_run.proofs.job.ScriptJob.operate.Goals as goal

pub on_answer-requires-clause-may : goal.on_answer-requires-clause-may
on_answer-requires-clause-may g c = (
  ap (λ (w : Working). w.going) c.set_state.ensures,
  ap (λ (w : Working). w.faulted) c.set_state.ensures ∙ ap (λ (w : Working). w.faulted) c.hear.ensures.job
      ∙ ap (λ (w : Working). w.faulted) c.note_end.ensures
      ∙ ap (λ (w : Working). w.faulted) c.result_of-result.ensures.job ∙ c.requires.may.1,
)

pub on_answer-requires-clause-tells : goal.on_answer-requires-clause-tells
on_answer-requires-clause-tells g c =
    let source = g.L.Source.text in
    let bounds = g.J.JournalId.bounds in
    let seen = c.result_of-result.new.session.seat.events in
    let line = answer_to c.args.number (Plain c.result_of-result.result) in
    let knows = subst (λ (s : Seated). Begins s.seat.events c.hear.new.self.log.told) c.deref_mut-2.ensures.value
    c.hear.ensures.knows in
    subst (λ (w : Working). TellsLine source bounds w.log.told line) (sym c.set_state.ensures)
    (line_tells_on source bounds seen c.hear.new.self.log.told knows line
    (answer_tells source bounds seen c.args.number (asked c.args.step) c.result_of-result.result c.requires.says
    c.result_of-result.ensures.tells))

pub on_answer-requires-clause-made : goal.on_answer-requires-clause-made
on_answer-requires-clause-made g c =
    let source = g.L.Source.text in
    let bounds = g.J.JournalId.bounds in
    let knows = subst (λ (s : Seated). Begins s.seat.events c.hear.new.self.log.told) c.deref_mut-2.ensures.value
    c.hear.ensures.knows in
    subst (λ (w : Working). WasMade bounds source w.log.told c.args.number (said_of c.result_of-result.result))
    (sym c.set_state.ensures) (record {
      what = asked c.args.step;
      says = c.requires.says;
      old = _;
      new = c.result_of-result.new.session;
      makes = (c.requires.still, c.result_of-result.ensures.made);
      knows = knows;
    })

pub returns-clause-plays : goal.returns-clause-plays
returns-clause-plays g c =
    let source = g.L.Source.text in
    let bounds = g.J.JournalId.bounds in
    let what = asked c.args.step in
    let answer = c.result_of-result.result in
    let here = c.args.session.value in
    let mid = c.result_of-result.new.session in
    let now = c.hear.new.session in
    let makes = subst (λ (s : Seated). Makes bounds what s (said_of answer) mid) c.deref_mut.ensures.value
    c.result_of-result.ensures.made in
    let heard = subst (λ (s : Seated). HearsMore bounds s now) c.deref_mut-2.ensures.value
    (c.hear.ensures.state, _, c.hear.ensures.heard) in
    let told = c.hear.ensures.job ∙ ap (λ (w : Working). record w {
      log = record w.log { told = c.hear.new.self.log.told };
    }) (c.note_end.ensures ∙ c.result_of-result.ensures.job) in
    let same = ap (λ (w : Working). w.log) c.set_state.ensures ∙ ap (λ (w : Working). w.log) told in record {
      answer = Plain answer;
      to = live now;
      there = c.on_answer.ensures.stands ∙ ap (λ (w : Working). w.stands) c.set_state.ensures;
      kept = kept_told c.args.self.now.log c.set_state.new.self.log c.on_answer.new.self.log c.args.number
          (Plain answer)
          (ap (λ (l : Logged). l.lost) same)
          (ap (λ (l : Logged). l.replies) same)
          c.on_answer.ensures.kept;
      plays = record {
        what = what;
        says = c.requires.says;
        here = live here;
        hears = inl refl;
        there = live mid;
        turns = inl (turns_live bounds what here mid answer c.requires.still makes);
        heard = inr heard;
      };
    }

pub set_state-requires-clause-own : goal.set_state-requires-clause-own
set_state-requires-clause-own g c =
    let source = g.L.Source.text in
    let job = c.args.self.now.number in
    let line = c.args.number in
    let es = c.hear.new.session.state.buffer in
    let same = c.hear.ensures.state ∙ ap (λ (s : Seated). s.state) c.deref_mut-2.ensures.value in
    let own = subst (λ (s : SessionState). AllBy (EnteredBy source job (line + 1)) s.buffer) (sym same)
    c.result_of-result.ensures.own in
    let entered = later_entered source job line c.args.self.now.left es c.requires.later own in
    subst (λ (w : Working). AreEntered source w.number w.left es) (sym c.hear.ensures.job)
    (subst (λ (w : Working). AreEntered source w.number w.left es) (sym c.note_end.ensures)
    (subst (λ (w : Working). AreEntered source w.number w.left es) (sym c.result_of-result.ensures.job) entered))
