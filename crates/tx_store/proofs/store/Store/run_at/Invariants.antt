use Rattle.std.proofs.Common.{◌≡◌}
use Rattle.tx_store.proofs.store.Store.run_at.Given as goal

-- it is still the reply that was handed in
abbrev pub invariant-loop-try : goal.invariant-loop-try
invariant-loop-try g l = l.place ≡ l.fn.place
