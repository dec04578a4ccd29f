use Rattle.std.proofs.Common.{ℕ, List, sym, subst, ◌∙◌}
use Rattle.tx_run.specs.Jobs.{AreGathered}
use Rattle.tx_workload.specs.LineNumbers.{numbers_in}
use Rattle.tx_run.proofs.AllAnswers.{faults}
use Rattle.tx_run.proofs.OwnSeats.{both_ok, if_ok}
use Rattle.tx_run.proofs.play.play.Goals as goal

pub returns-clause-comes : goal.returns-clause-comes
returns-clause-comes g c =
    let outputs = c.in-Ok-work.outputs.items in
    if_ok c.close.result (λ played was. (
      outputs,
      subst (λ (f : List ℕ). AreGathered g.J.JournalId.bounds g.L.Source.text f played.seen.events played.replies
          outputs)
          (rw c.as_slice.ensures.value at c.in_ok-seat.ensures.each) was.0.0,
      c.in-Ok-work.ensures.answered,
      c.in-Ok-work.ensures.falling,
      c.in-Ok-work.ensures.played,
      was.1,
    )) (both_ok _ _ c.close.result c.close.ensures.gathered c.close.ensures.stages)

pub returns-clause-faulted : goal.returns-clause-faulted
returns-clause-faulted g c =
    let outputs = c.in-Ok-work.outputs.items in
    if_ok c.close.result (λ played was. was.1
    ∙ sym (faults was.0.0 played.seen.events played.replies outputs (numbers_in c.args.script.sessions.items) was.0.2
    was.0.3 c.in-Ok-work.ensures.answered)) c.close.ensures.gathered
