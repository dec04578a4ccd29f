-- No entries rise.
use Rattle.std.proofs.Common.{[], sym, subst}
use Rattle.std.specs.List.Sorted.{IsStrictlySortedBy}
use Rattle.tx_nested.proofs.EntryOrder.{Rises}
use Rattle.tx_nested.proofs.timeline.Timeline.new.Goals as goal

none_rise : (X : Type 0) → Rises {X = X} []
unfolding IsStrictlySortedBy
none_rise X = tt

pub invariant_of-result : goal.invariant_of-result
invariant_of-result g c = subst (Rises {X = g.row.X.Denot}) (sym c.new.ensures.items) (none_rise g.row.X.Denot)
