use Rattle.tx_run.specs.Played.{buffer_at}
use Rattle.std.proofs.Common.{◌≡◌, List, ℕ, [], map, true, refl, sym, subst}
use Rattle.std.specs.Prelude.{reverse}
use Rattle.tx_run.specs.Jobs.{JobGoesOn, MayAnswer, Working, with_line}
use Rattle.tx_workload.specs.LineNumbers.{number_of}
use Rattle.tx_run.specs.States.{going_of, where_of}
use Rattle.tx_workload.specs.Tells.{Owns}
use Rattle.tx_workload.proofs.Evidence.{fault_tells}
use Rattle.tx_run.proofs.AnsweredLines.{failed, sound_failed}
use Rattle.tx_run.proofs.LinesLeft.{owns_over}
use Rattle.tx_run.proofs.job.ScriptJob.fail.Goals as goal

pub returns-clause-goes : goal.returns-clause-goes
returns-clause-goes g c =
    let left = map number_of (reverse c.clear.new.self.items) in
    let j : Working = record {
      number = c.self.inside.number;
      log = c.self.inside.log;
      going = going_of c.self.inside.state (λ transfer. transfer.value.number);
      left = map number_of (reverse c.self.inside.lines.items);
      stands = where_of c.self.inside.state (λ session. session.value) (λ transfer. transfer.value);
      faulted = c.self.inside.faulted;
    } in
    subst (λ (w : Working). JobGoesOn (with_line c.args.number w)
    (record j { log = c.keep.new.self; left = left; faulted = true })) c.self.view_is
    (failed j c.keep.new.self c.args.number c.args.cause left (subst MayAnswer (sym c.self.view_is) c.requires)
    c.keep.ensures.same.0 c.keep.ensures.kept (rw c.clear.ensures.items refl))

pub keep-requires : goal.keep-requires
keep-requires g c =
    fault_tells g.L.Source.text g.J.JournalId.bounds c.self.inside.log.told c.args.number c.args.cause

pub invariant_of-self : goal.invariant_of-self
invariant_of-self g c =
    let source = g.L.Source.text in
    let old = map number_of (reverse c.self.inside.lines.items) in
    let left = map number_of (reverse c.clear.new.self.items) in
    let buffer = buffer_at (where_of c.self.inside.state (λ session. session.value) (λ transfer. transfer.value)) in
    let j : Working = record {
      number = c.self.inside.number;
      log = c.self.inside.log;
      going = going_of c.self.inside.state (λ transfer. transfer.value.number);
      left = old;
      stands = where_of c.self.inside.state (λ session. session.value) (λ transfer. transfer.value);
      faulted = c.self.inside.faulted;
    } in
    let none : left ≡ [] = rw c.clear.ensures.items refl in (
      sound_failed j c.keep.new.self c.args.number c.args.cause left c.self.invariant.0
          (subst MayAnswer (sym c.self.view_is) c.requires) c.keep.ensures.kept none,
      subst (λ (l : List ℕ). Owns source j.number l buffer) (sym none)
          (owns_over source j.number old buffer c.self.invariant.1),
    )
