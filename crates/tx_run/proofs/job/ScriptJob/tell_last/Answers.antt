use Rattle.std.proofs.Common.{Some, ap, ◌∙◌}
use Rattle.tx_client.specs.Calls.{Seated}
use Rattle.tx_core.specs.Histories.{History}
use Rattle.tx_run.specs.Played.{Standing, free, known_at, live}
use Rattle.tx_run.proofs.Played.{same_standing}
use Rattle.tx_run.proofs.job.ScriptJob.tell_last.Goals as goal

pub returns-in-Free-clause-knows : goal.returns-in-Free-clause-knows
returns-in-Free-clause-knows g c s is =
    let here = same_standing _ (free c.in-Free.seat) s (rw c.in-Free.is at c.take_state.ensures.entered) is in
    ap (λ (h : History). Some h) c.tell.ensures.told
    ∙ ap (λ (t : Standing). Some (known_at t).events) here

pub returns-in-Live-clause-knows : goal.returns-in-Live-clause-knows
returns-in-Live-clause-knows g c s is =
    let here = same_standing _ (live c.in-Live.session.value) s (rw c.in-Live.is at c.take_state.ensures.entered) is in
    ap (λ (h : History). Some h) (c.tell-in-Live.ensures.told
    ∙ ap (λ (t : Seated). t.seat.events) c.deref_mut.ensures.value)
    ∙ ap (λ (t : Standing). Some (known_at t).events) here
