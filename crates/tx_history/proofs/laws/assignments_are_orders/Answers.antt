-- Doubled, with starts one higher, a commit at a start lies below it.
use Rattle.std.proofs.Common.{◌+◌, arith}
use Rattle.tx_history.proofs.laws.assignments_are_orders.Goals as goal

pub returns : goal.returns
returns c h start commit a = record {
  own = λ t lt. (let less = a.above t lt in omega (arith, less));
  ww = λ k i has more. (let le = a.apart k i (i + 1) has more (omega arith) in omega (arith, le));
  wr = λ r is has. (let le = a.seen r is has in omega (arith, le));
  after = λ p is. (let le = a.after p is in omega (arith, le));
  rw = λ r is has. (let lt = a.newest r (r.version + 1) is has (omega arith) in omega (arith, lt));
}
