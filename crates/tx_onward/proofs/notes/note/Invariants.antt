use Rattle.tx_onward.specs.Tells.{tells}
use Rattle.tx_onward.proofs.Counts.{IsNoted}
use Rattle.tx_onward.proofs.notes.note.Given as goal

abbrev pub invariant-loop-t : goal.invariant-loop-t
invariant-loop-t l = IsNoted (tells l.recording l.verdict) l.fn.told l.told l.is_more l.t
