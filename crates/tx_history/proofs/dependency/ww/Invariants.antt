-- None of the keys so far.
use Rattle.std.proofs.Common.{ℕ, ◌<◌}
use Rattle.tx_history.specs.Records.{writers_of}
use Rattle.tx_history.specs.Dependencies.{IsNoWwIn}
use Rattle.tx_history.proofs.dependency.ww.Given as goal

abbrev pub invariant-loop-key : goal.invariant-loop-key
invariant-loop-key l = (k : ℕ) → k < l.key → IsNoWwIn (writers_of l.recorded k) l.from l.to
