use Rattle.std.proofs.Common.{◌≡◌, inr, ℕ, Some, map, sym, ap, subst, ◌∙◌}
use Rattle.std.specs.Prelude.{reverse}
use Rattle.tx_transfer.specs.TransferSteps.{Moving, Steps}
use Rattle.tx_transfer.proofs.TransferSteps.{steps_number}
use Rattle.tx_workload.specs.LineNumbers.{number_of}
use Rattle.tx_run.specs.Jobs.{Working}
use Rattle.tx_run.specs.Played.{moving}
use Rattle.tx_run.specs.States.{going_of, where_of}
use Rattle.tx_run.proofs.AnsweredLines.{advanced}
use Rattle.tx_run.proofs.job.ScriptJob.advance_transfer.Goals as goal

pub returns-in-Transfer-clause-advances : goal.returns-in-Transfer-clause-advances
returns-in-Transfer-clause-advances g c =
    let bounds = g.J.JournalId.bounds in
    let j : Working = record {
      number = c.self.inside.number;
      log = c.self.inside.log;
      going = going_of c.self.inside.state (λ transfer. transfer.value.number);
      left = map number_of (reverse c.self.inside.lines.items);
      stands = where_of c.self.inside.state (λ session. session.value) (λ transfer. transfer.value);
      faulted = c.self.inside.faulted;
    } in
    let old = c.args.self.now in
    let m : Moving = c.in-Transfer.transfer.value in
    let n = c.step.new.self in
    let p = c.step.result in
    let steps : Steps bounds m p n = subst (λ (o : Moving). Steps bounds o p n) c.deref_mut.ensures.value c.step.ensures
    in
    let same = steps_number bounds m n p steps in
    let is : record j { going = Some m.number; stands = moving m } ≡ old =
    ap (λ s. record j {
      going = going_of s (λ transfer. transfer.value.number);
      stands = where_of s (λ session. session.value) (λ transfer. transfer.value);
    }) (sym c.in-Transfer.is) ∙ c.self.view_is in
    inr (
      m,
      n,
      sym (ap (λ (w : Working). w.stands) is),
      steps,
      same,
      ap (λ (k : ℕ). record j { going = Some k; stands = moving n }) same
          ∙ ap (λ (w : Working). record w { stands = moving n }) is,
    )

pub returns-in-Transfer-clause-goes : goal.returns-in-Transfer-clause-goes
returns-in-Transfer-clause-goes g c =
    advanced g.J.JournalId.bounds c.args.self.now _ c.step.result (returns-in-Transfer-clause-advances g c)
