use Rattle.std.proofs.Common.{◌≡◌, inr, ℕ, None, Err, refl, subst}
use Rattle.tx_update.specs.Updates.{HasOutcome}
use Rattle.tx_core.specs.Histories.{declared}
use Rattle.tx_update.proofs.CallSequences.{goes_more}
use Rattle.tx_update.proofs.CommitOrder.{writes_after, still_open, open_stands, open_stop, undeclared_ends}
use Rattle.tx_update.proofs.attempt.run.Goals as goal

pub returns-in-Ok-clause-session : goal.returns-in-Ok-clause-session
returns-in-Ok-clause-session g c =
    writes_after c.args.session c.apply-session.result.0 c.write-session.result.0 c.apply-session.ensures.session
    c.write-session.ensures.session

pub returns-in-Ok-clause-resolver : goal.returns-in-Ok-clause-resolver
returns-in-Ok-clause-resolver g c =
    goes_more c.args.resolver c.apply-session.result.1 c.write-session.result.1 c.apply-session.ensures.resolver
    c.write-session.ensures.resolver

-- a work that refused has written nothing
pub returns-in-Err-clause-works : goal.returns-in-Err-clause-works
returns-in-Err-clause-works g c =
    let mid = c.apply-session.result.0 in
    record {
      answered = Err c.in-Err.failure;
      entered = mid.state.buffer;
      did = rw c.requires.empty at (rw c.in-Err.is at c.apply-session.ensures.did);
      tells = (refl, refl);
      before = mid.seat;
      goes = c.apply-session.ensures.session.seat;
      wrote = subst (λ (n : ℕ). declared mid.seat.events n ≡ None) c.apply-session.ensures.session.start
          (open_stands mid (still_open c.args.session mid c.apply-session.ensures.session c.requires.open)
          c.show.ensures.stands);
    }

-- what carries it says why it has no outcome
pub returns-in-Ok-clause-ended : goal.returns-in-Ok-clause-ended
returns-in-Ok-clause-ended g c =
    open_stop c.write-session.result.2 (HasOutcome c.write-session.result.0) _ c.failed_by.ensures
    c.write-session.ensures.ended c.write-session.ensures.stopped

-- of a work that refused nothing is declared
pub returns-in-Err-clause-ended : goal.returns-in-Err-clause-ended
returns-in-Err-clause-ended g c =
    let mid = c.apply-session.result.0 in
    inr (undeclared_ends mid (still_open c.args.session mid c.apply-session.ensures.session c.requires.open))
