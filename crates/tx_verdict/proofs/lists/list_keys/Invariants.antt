-- By the operations so far.
use Rattle.tx_verdict.proofs.ListKeys.{AreListsUpto}
use Rattle.tx_verdict.proofs.lists.list_keys.Given as goal

abbrev pub invariant-loop-i : goal.invariant-loop-i
invariant-loop-i l = AreListsUpto l.recording.ops.items l.i l.recording.keys l.lists.items
