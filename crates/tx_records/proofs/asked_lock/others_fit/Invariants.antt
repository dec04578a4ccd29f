use Rattle.std.proofs.Common.{take}
use Rattle.std.specs.List.{AllByRecursion}
use Rattle.tx_codec.specs.Keys.{IsKey}
use Rattle.tx_records.proofs.asked_lock.others_fit.Given as goal

abbrev pub invariant-loop-key : goal.invariant-loop-key
invariant-loop-key l = AllByRecursion IsKey (take l.key-index l.key-items)
