use Rattle.std.proofs.Common.{◌≡◌, ℕ, None, Some, sym, ap, subst, ◌∙◌}
use Rattle.tx_types.specs.declared.key.Key.{Key}
use Rattle.tx_transaction.specs.Sessions.{finish_of}
use Rattle.tx_client.specs.Calls.{Seated}
use Rattle.tx_transfer.specs.Sources.{HasPair}
use Rattle.tx_transfer.specs.Transfers.{Moves}
use Rattle.tx_transfer.specs.declared.progress.TransferProgress.TheVariants.{Over}
use Rattle.tx_workload.specs.declared.reply.LineAnswer.TheVariants.{Ended}
use Rattle.tx_workload.specs.Logs.{HasFinished, KeepsAnswer, Logged}
use Rattle.tx_run.specs.Jobs.{JobGoesOn, Working, with_line}
use Rattle.tx_run.specs.Played.{StopsSo}
use Rattle.tx_run.specs.Transfers.{HearsMore}
use Rattle.tx_run.proofs.AnsweredLines.{to_state}
use Rattle.tx_run.proofs.Leads.{ends_stopped}
use Rattle.tx_run.proofs.job.ScriptJob.end_transfer.Goals as goal

pub conclude-requires-clause-moves : goal.conclude-requires-clause-moves
conclude-requires-clause-moves g c =
    subst (λ (k : Key × Key). Moves k.0 k.1 c.into_parts-session.result.0.state) (sym c.of-pair.ensures)
    c.into_parts-session.ensures.moves

pub conclude-requires-clause-pair : goal.conclude-requires-clause-pair
conclude-requires-clause-pair g c =
    subst (λ (k : Key × Key). HasPair g.L.Source.text c.into_parts-session.result.1 (Some k)) (sym c.of-pair.ensures)
    c.into_parts-session.ensures.pair

pub returns-in-Ok-clause-goes : goal.returns-in-Ok-clause-goes
returns-in-Ok-clause-goes g c =
    let kept = c.in-Ok.ensures.kept in
    to_state (with_line c.args.transfer.number c.args.self.now) c.conclude.new.self c.set_state.new.self _
    (subst (λ (n : ℕ). JobGoesOn (with_line n c.args.self.now) c.conclude.new.self) c.into_parts-session.ensures.number
    kept.0) kept.1 c.set_state.ensures

pub returns-in-Ok-clause-told : goal.returns-in-Ok-clause-told
returns-in-Ok-clause-told g c =
    let old = c.args.self.now.log in
    let m = c.args.transfer in
    let s = c.into_parts-session.result.0 in
    let keys = c.of-pair.result in
    let f = c.in-Ok.ensures.finished in
    let answer = Ended s.state.start f.0 (Some keys) in record {
      answer = answer;
      seat = c.in-Ok.seat;
      there = ap (λ (w : Working). w.stands) c.set_state.ensures;
      kept = subst (λ (n : ℕ). KeepsAnswer old n answer c.set_state.new.self.log) c.into_parts-session.ensures.number
          (subst (λ (l : Logged). KeepsAnswer old c.into_parts-session.result.1 answer l)
          (sym (ap (λ (w : Working). w.log) c.set_state.ensures)) f.2);
      ends = (
        ap (λ (t : Seated). t.state.start) c.into_parts-session.ensures.session,
        ap (λ (k : Key × Key). Some k) (c.of-pair.ensures ∙ c.into_parts-session.ensures.keys),
        old.told,
        subst (λ (t : Seated). HasFinished g.J.JournalId.bounds t old.told f.0 c.in-Ok.seat)
            c.into_parts-session.ensures.session f.1,
      );
    }

pub returns-in-Err-clause-told : goal.returns-in-Err-clause-told
returns-in-Err-clause-told g c =
    let bounds = g.J.JournalId.bounds in
    let m = c.args.transfer in
    let old = c.args.self.now.log in
    let new = c.stop.new.self in
    let none = c.in-Err.ensures.none in
    let was = c.into_parts-session.ensures.session in
    let open_yet = c.in-Err.ensures.open_yet in
    let heard = subst (λ (t : Seated). HearsMore bounds t c.in-Err.session) was (open_yet.1, old.told, open_yet.2) in
    ends_stopped bounds m Over c.in-Err.session c.new.result old c.conclude.new.self.log new.log new.stands
    (subst (λ (n : ℕ). StopsSo bounds c.in-Err.session n c.new.result c.conclude.new.self.log new.log new.stands)
    c.into_parts-session.ensures.number c.stop.ensures.stopped) heard
    (c.new.ensures, subst (λ (t : Seated). finish_of t.state ≡ None) was open_yet.0)
    (ap (λ (w : Working). w.log.lost) none) (ap (λ (w : Working). w.log.replies) none)
