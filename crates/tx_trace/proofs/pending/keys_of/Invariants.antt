use Rattle.std.proofs.Common.{◌≡◌, take, is_some}
use Rattle.tx_types.specs.declared.key.Key.{Key}
use Rattle.tx_machine.specs.Keys.{mutation_at}
use Rattle.tx_trace.specs.Pending.{has}
use Rattle.tx_trace.proofs.pending.keys_of.Given as goal

abbrev pub invariant-loop-change : goal.invariant-loop-change
invariant-loop-change l = (k : Key) → has l.keys k ≡ is_some (mutation_at (take l.change-index l.change-items) k)
