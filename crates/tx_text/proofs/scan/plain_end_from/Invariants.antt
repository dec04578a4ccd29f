use Rattle.std.proofs.Common.{◌≤◌, ◌<◌, ◌-◌, ◌≡◌, ℕ, length, get_or, false}
use Rattle.tx_text.specs.Plain.{is_stop}
use Rattle.tx_text.proofs.scan.plain_end_from.Given as goal

abbrev pub invariant-bytes : goal.invariant-bytes
invariant-bytes l = (l.from ≤ l.at) × (l.at ≤ length l.bytes)
    × ((k : ℕ) → l.from ≤ k → k < l.at → is_stop (get_or l.bytes k 0) ≡ false)

abbrev pub decreases-bytes : goal.decreases-bytes
decreases-bytes l = length l.bytes - l.at
