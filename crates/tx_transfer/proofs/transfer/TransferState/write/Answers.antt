use Rattle.std.proofs.Common.{inl, inr, Ok, Err, refl, sym, ap, subst, ◌∙◌}
use Rattle.tx_transfer.specs.declared.progress.TransferPhase.TheVariants as step
use Rattle.tx_transfer.specs.TransferSteps.{Moving, PutsBoth}
use Rattle.tx_transfer.proofs.transfer.TransferState.write.Goals as goal

pub returns-then-has_declared : goal.returns-then-has_declared
returns-then-has_declared g c = inl (sym c.has_declared.ensures ∙ c.if-has_declared.true, (refl, refl))

pub returns-in-Ok : goal.returns-in-Ok
returns-in-Ok g c =
    let m = c.args.self.now in
    let o = c.enter.new.self in
    let n = c.turn_to.new.self in
    let is = c.turn_to.ensures.1 in
    let session = ap (λ (k : Moving). k.session) is in
    let puts = subst (λ r. PutsBoth g.J.JournalId.bounds m.what c.args.left m.session r o.session) c.in-Ok.is
    c.enter.ensures.puts in
    inr (
      Ok tt,
      subst (λ s. PutsBoth g.J.JournalId.bounds m.what c.args.left m.session (Ok tt) s) (sym session) puts,
      c.turn_to.ensures.0,
      is ∙ ap (λ (k : Moving). record k { next = step.Prewrite }) c.enter.ensures.same
          ∙ ap (λ s. record m { session = s; next = step.Prewrite }) (sym session),
    )

pub returns-in-Err : goal.returns-in-Err
returns-in-Err g c =
    let m = c.args.self.now in
    let o = c.enter.new.self in
    let puts = subst (λ r. PutsBoth g.J.JournalId.bounds m.what c.args.left m.session r o.session) c.in-Err.is
    c.enter.ensures.puts in
    inr (Err c.in-Err.fault, puts, c.refused.ensures, c.enter.ensures.same)
