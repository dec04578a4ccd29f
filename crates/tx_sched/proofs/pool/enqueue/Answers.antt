use Rattle.std.proofs.Common.{refl, ◌+◌}
use Rattle.tx_sched.proofs.Counts.{next_is, then_left}
use Rattle.tx_sched.proofs.pool.enqueue.Goals as goal

pub new-requires : goal.new-requires
new-requires g c =
    next_is g.N.Opening.jobs c.loop-job.index c.in-Some.job c.loop-job.job-iterator.rest.items
    c.next.new.self.rest.items c.loop-job.invariant c.in-Some.ensures.steps.0

pub loop-job-preserved : goal.loop-job-preserved
loop-job-preserved g c =
    then_left g.N.Opening.jobs c.loop-job.index (c.loop-job.index + 1) c.in-Some.job c.loop-job.job-iterator.rest.items
    c.next.new.self.rest.items refl c.loop-job.invariant
    c.in-Some.ensures.steps.0
