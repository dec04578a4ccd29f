-- Of the keys so far two puts may come in two orders.
use Rattle.tx_verdict.specs.Undecided.{AreUndecided}
use Rattle.tx_judge.proofs.open_keys.open_keys.Given as goal

abbrev pub invariant-loop-key : goal.invariant-loop-key
invariant-loop-key l = AreUndecided l.recording l.keys.items
