use Rattle.std.proofs.Common.{◌≡◌}
use Rattle.tx_answers.specs.Traces.{each_of, moments_at}
use Rattle.tx_answers.proofs.moment.moments_in_turn.Given as goal

abbrev pub invariant-loop-txn : goal.invariant-loop-txn
invariant-loop-txn l = l.moments.items ≡ each_of (moments_at l.timestamps) l.txn
