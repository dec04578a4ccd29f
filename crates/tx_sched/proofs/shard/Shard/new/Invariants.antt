use Rattle.std.proofs.Common.{◌≡◌, ◌≤◌, vec_len, vec_capacity}
use Rattle.tx_sched.proofs.shard.Shard.new.Given as goal

abbrev pub invariant-loop : goal.invariant-loop
invariant-loop g l = record {
  made : vec_len l.parked ≡ l.counter;
  room : l.jobs ≤ vec_capacity l.parked;
}
