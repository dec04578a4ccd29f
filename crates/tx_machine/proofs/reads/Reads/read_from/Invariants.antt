use Rattle.std.proofs.Common.{ℕ, ◌≤◌, ◌-◌, ◌^◌}
use Rattle.tx_machine.specs.Noted.{IsNoted}
use Rattle.tx_machine.proofs.reads.Reads.read_from.Given as goal

abbrev pub invariant-spans : goal.invariant-spans
invariant-spans l = (l.fn.from ≤ l.bound) × ((r : ℕ) → IsNoted l.self l.key r → l.fn.from ≤ r → r ≤ l.bound → ⊥)

abbrev pub decreases-spans : goal.decreases-spans
decreases-spans l = 2 ^ 64 - l.bound
