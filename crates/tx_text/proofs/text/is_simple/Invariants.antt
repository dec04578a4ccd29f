use Rattle.std.proofs.Common.{◌≤◌, ◌<◌, ◌-◌, ◌≡◌, ℕ, length, get_or, false}
use Rattle.tx_text.specs.Plain.{is_foreign}
use Rattle.tx_text.proofs.text.is_simple.Given as goal

abbrev pub invariant-lanes : goal.invariant-lanes
invariant-lanes l = (l.at ≤ length l.bytes) × ((k : ℕ) → k < l.at → is_foreign (get_or l.bytes k 0) ≡ false)

abbrev pub decreases-lanes : goal.decreases-lanes
decreases-lanes l = length l.bytes - l.at
