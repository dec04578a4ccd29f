-- One event more.
use Rattle.std.proofs.Common.{◌≡◌, ℕ, ◌<◌, ◌≤◌, true, false, get_or, arith, sym, ap, ◌∙◌, subst, refl, IsTrue}
use Rattle.std.proofs.Math.Bool.{not}
use Rattle.tx_clock.specs.KeptOrder.{event_at}
use Rattle.tx_clock.proofs.NextEvents.{ended_next, begun_next}
use Rattle.tx_clock.proofs.clock.keeps_events.Goals as goal

pub loop-i-preserved : goal.loop-i-preserved
loop-i-preserved c =
    let events = c.args.events.now in
    let i = c.loop-i.i in
    record {
      above = ended_next events c.args.starts.now c.args.commits.now c.loop-i.latest c.later_of-latest.result i
          c.later_of-latest.ensures.kept
          (λ ends. (let up = c.later_of-latest.ensures.upto ends in let same =
          c.number_at-in-loop-i.ensures in omega (arith, up, same)))
          c.loop-i.invariant.above;
      kept = begun_next events c.args.starts.now c.args.commits.now c.loop-i.latest i
          (λ begins. (let low = c.is_early.ensures c.if-is_early.false
          (subst (λ b. IsTrue (not b)) (sym begins) refl) in let same =
          c.number_at.ensures in omega (arith, low, same)))
          c.loop-i.invariant.above c.loop-i.invariant.kept;
    }

pub returns : goal.returns
returns c _ i j before lt = c.loop-i.invariant.kept i j before (let end = c.loop-i-test.false in omega (arith, end, lt))
