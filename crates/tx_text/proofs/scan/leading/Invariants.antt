use Rattle.std.proofs.Common.{◌≤◌, ◌-◌, length, drop}
use Rattle.arrayvec.specs.ArrayVec.{array_vec_len}
use Rattle.tx_text.specs.Scan.{ReadParts}
use Rattle.tx_text.proofs.scan.leading.Given as goal

abbrev pub invariant-parts : goal.invariant-parts
invariant-parts l = (l.at ≤ length l.line) × ReadParts l.line l.parts.items (drop l.at l.line)

abbrev pub decreases-parts : goal.decreases-parts
decreases-parts l = 7 - array_vec_len l.parts
