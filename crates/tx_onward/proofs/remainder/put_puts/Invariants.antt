-- Those so far.
use Rattle.std.proofs.Common.{◌≡◌, ◌++◌, take}
use Rattle.std.specs.List.{filter}
use Rattle.tx_onward.specs.Left.{is_put}
use Rattle.tx_onward.proofs.remainder.put_puts.Given as goal

abbrev pub invariant-loop-i : goal.invariant-loop-i
invariant-loop-i l = l.left.items ≡ l.fn.left.items ++ filter (λ o. is_put o.act) (take l.i l.ops)
