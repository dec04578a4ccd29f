use Rattle.std.proofs.Common.{map, sym, ap, subst, ◌∙◌}
use Rattle.std.specs.Prelude.{reverse}
use Rattle.tx_workload.specs.LineNumbers.{number_of}
use Rattle.tx_run.specs.States.{going_of, where_of}
use Rattle.tx_workload.specs.declared.reply.LineAnswer.TheVariants.{Ended}
use Rattle.std.specs.Prelude.{◌≡◌, None, IfOk, IfErr}
use Rattle.tx_core.specs.declared.event.Outcome.{Outcome}
use Rattle.tx_journal.specs.Known.{Known}
use Rattle.tx_client.specs.Calls.{HasHeard, Seated}
use Rattle.tx_transaction.specs.Sessions.{finish_of}
use Rattle.tx_workload.specs.Logs.{HasFinished, KeepsAnswer, Logged}
use Rattle.tx_run.specs.Jobs.{JobGoesOn, MayAnswer, Working, with_line}
use Rattle.tx_run.proofs.AnsweredLines.{answered, sound_concluded}
use Rattle.tx_workload.proofs.WrittenLines.{on_ok, on_err}
use Rattle.tx_run.proofs.job.ScriptJob.conclude.Goals as goal

pub returns-clause-kept : goal.returns-clause-kept
returns-clause-kept g c =
    let j : Working = record {
      number = c.self.inside.number;
      log = c.self.inside.log;
      going = going_of c.self.inside.state (λ transfer. transfer.value.number);
      left = map number_of (reverse c.self.inside.lines.items);
      stands = where_of c.self.inside.state (λ session. session.value) (λ transfer. transfer.value);
      faulted = c.self.inside.faulted;
    } in
    let may = subst MayAnswer (sym c.self.view_is) c.requires.may in
    on_ok c.finish.result c.finish.ensures.kept (λ k. (
      subst (λ (w : Working). JobGoesOn (with_line c.args.number w) (record j { log = c.finish.new.self }))
          c.self.view_is
          (answered j c.finish.new.self c.args.number (Ended k.0 k.1 c.args.keys) may c.finish.ensures.same k.2),
      may,
    ))

pub returns-clause-none : goal.returns-clause-none
returns-clause-none g c =
    let j : Working = record {
      number = c.self.inside.number;
      log = c.self.inside.log;
      going = going_of c.self.inside.state (λ transfer. transfer.value.number);
      left = map number_of (reverse c.self.inside.lines.items);
      stands = where_of c.self.inside.state (λ session. session.value) (λ transfer. transfer.value);
      faulted = c.self.inside.faulted;
    } in
    on_err c.finish.result c.finish.ensures.none (λ same. ap (λ (l : Logged). record j { log = l }) same
    ∙ c.self.view_is)

pub invariant_of-self : goal.invariant_of-self
invariant_of-self g c =
    let j : Working = record {
      number = c.self.inside.number;
      log = c.self.inside.log;
      going = going_of c.self.inside.state (λ transfer. transfer.value.number);
      left = map number_of (reverse c.self.inside.lines.items);
      stands = where_of c.self.inside.state (λ session. session.value) (λ transfer. transfer.value);
      faulted = c.self.inside.faulted;
    } in (
      sound_concluded j c.finish.new.self c.args.number c.args.keys c.finish.result c.self.invariant.0
          (subst MayAnswer (sym c.self.view_is) c.requires.may) c.finish.ensures.kept c.finish.ensures.none,
      c.self.invariant.1,
    )

pub returns-clause-finished : goal.returns-clause-finished
returns-clause-finished g c =
    let bounds = g.J.JournalId.bounds in
    let session = c.args.session in
    subst (λ (w : Working). IfOk c.finish.result (λ (seat : Known). (o : Outcome)
    × HasFinished bounds session w.log.told o seat
    × KeepsAnswer w.log c.args.number (Ended session.state.start o c.args.keys) c.finish.new.self))
    c.self.view_is c.finish.ensures.finished

pub returns-clause-open_yet : goal.returns-clause-open_yet
returns-clause-open_yet g c =
    let bounds = g.J.JournalId.bounds in
    let session = c.args.session in
    subst (λ (w : Working). IfErr c.finish.result (λ (s : Seated). (finish_of session.state ≡ None)
    × (s.state ≡ session.state) × HasHeard bounds session.seat w.log.told s.seat))
    c.self.view_is c.finish.ensures.open_yet
