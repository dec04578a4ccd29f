use Rattle.std.proofs.Common.{◌≡◌, ℕ, Some, slice_get, vec_len}
use Rattle.tx_lines_tests.specs.declared.sched.Count.{Count}
use Rattle.tx_lines_tests.proofs.sched.jobs_of.Given as goal

abbrev pub invariant-loop-slot : goal.invariant-loop-slot
invariant-loop-slot l = (l.number ≡ vec_len l.jobs) × (l.number ≡ l.slot-index)
    × ((k : ℕ) (job : Count) → slice_get l.jobs.items k ≡ Some job → job.number ≡ k)
