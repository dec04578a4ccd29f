-- Both are events, in the order of time.
use Rattle.std.proofs.Common.{subst}
use Rattle.tx_clock.specs.KeptOrder.{KeepsEvents}
use Rattle.tx_clock.proofs.ClockOrder.{clock_kept}
use Rattle.tx_clock.proofs.clock.keeps_clock.Goals as goal

pub returns : goal.returns
returns c is =
    clock_kept c.args.recording.now c.args.live.now c.in_ok-events.events.items c.args.starts.now c.args.commits.now
    c.in_ok-events.ensures
    (subst (λ q. KeepsEvents q c.args.starts.now c.args.commits.now) c.as_slice.ensures.value
    (c.keeps_events.ensures is))
