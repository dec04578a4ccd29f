-- Those so far are marked.
use Rattle.std.proofs.Common.{◌≡◌, length}
use Rattle.tx_import.proofs.Bares.{AreMarkedTo}
use Rattle.tx_import.proofs.bare.read_values.Given as goal

abbrev pub invariant-loop-i : goal.invariant-loop-i
invariant-loop-i l = (length l.read.items ≡ l.recording.values)
    × AreMarkedTo l.recording.elements.items l.read.items l.i
