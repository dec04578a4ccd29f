use Rattle.std.proofs.Common.{◌≡◌, drop}
use Rattle.tx_sched.proofs.pool.enqueue.Given as goal

abbrev pub invariant-loop-job : goal.invariant-loop-job
invariant-loop-job g l = drop l.index g.N.Opening.jobs ≡ l.job-iterator.rest.items
