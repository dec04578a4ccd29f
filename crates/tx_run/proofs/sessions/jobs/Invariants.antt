use Rattle.std.proofs.Common.{◌≡◌, ◌+◌, ◌*◌, ◌≤◌, ◌++◌, length, map, vec_len}
use Rattle.tx_run.specs.Jobs.{AreFrom, HaveOwnSeats, job_lines}
use Rattle.tx_workload.specs.LineNumbers.{numbers_in}
use Rattle.tx_run.proofs.sessions.jobs.Given as goal

abbrev pub invariant-loop-lines : goal.invariant-loop-lines
invariant-loop-lines g l = record {
  seats : AreFrom (length g.J.JournalId.bounds + 1) l.seats.items;
  left : vec_len l.seats + 2 * l.number ≡ vec_len l.fn.seats;
  number : vec_len l.jobs ≡ l.number;
  few : l.number + length l.lines-iterator.rest.items ≤ 256;
  jobs : HaveOwnSeats (length g.J.JournalId.bounds + vec_len l.fn.seats) l.jobs.items;
  split : l.fn.sessions.items ≡ l.yielded ++ l.lines-iterator.rest.items;
  lines : map job_lines l.jobs.items ≡ numbers_in l.yielded;
}
