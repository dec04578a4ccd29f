use Rattle.std.proofs.Common.{◌≤◌, ◌-◌, ◌≡◌, length, take}
use Rattle.json.specs.Print.{escape}
use Rattle.tx_text.proofs.text.is_plain.Given as goal

abbrev pub invariant-bytes : goal.invariant-bytes
invariant-bytes l = (l.at ≤ length l.bytes) × (escape (take l.at l.bytes) ≡ take l.at l.bytes)

abbrev pub decreases-bytes : goal.decreases-bytes
decreases-bytes l = length l.bytes - l.at
