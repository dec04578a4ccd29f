use Rattle.std.proofs.Common.{◌≡◌, false, take}
use Rattle.std.specs.List.{list_any}
use Rattle.tx_onward.specs.Tells.{is_lemma_of}
use Rattle.tx_onward.proofs.tells.is_learned_by.Given as goal

abbrev pub invariant-loop-i : goal.invariant-loop-i
invariant-loop-i l = list_any (is_lemma_of l.txn) (take l.i l.lemmas) ≡ false
