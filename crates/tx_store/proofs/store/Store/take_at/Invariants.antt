use Rattle.std.proofs.Common.{◌≡◌}
use Rattle.tx_store.proofs.store.Store.take_at.Given as goal

-- the reply stays
abbrev pub invariant-loop : goal.invariant-loop
invariant-loop g l = (goal.iterator-loop g).can_next l.iterator' × (goal.iterator-loop g).is_finite l.iterator'
    × (l.place ≡ l.fn.place)
