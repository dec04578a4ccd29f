-- Nobody read what those so far put.
use Rattle.std.proofs.Common.{◌≡◌, ℕ, ◌<◌, get_or, true, false}
use Rattle.tx_recording.specs.Recordings.{no_op}
use Rattle.tx_recording.specs.Explanations.{Puts}
use Rattle.tx_import.proofs.bare.is_unread.Given as goal

abbrev pub invariant-loop-i : goal.invariant-loop-i
invariant-loop-i l = (j : ℕ) → j < l.i → (v : ℕ) → Puts (get_or l.ops j no_op).act v → get_or l.read v false ≡ true → ⊥
