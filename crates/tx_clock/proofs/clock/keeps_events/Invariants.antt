-- The latest is above each commit of those that ended; and each one so far that began starts above.
use Rattle.std.proofs.Common.{◌≡◌, ℕ, ◌<◌, ◌≤◌, true, false, get_or}
use Rattle.tx_clock.specs.KeptOrder.{event_at}
use Rattle.tx_clock.proofs.clock.keeps_events.Given as goal

abbrev pub invariant-loop-i : goal.invariant-loop-i
invariant-loop-i l = record {
  above : (i : ℕ) → i < l.i → (event_at l.events i).ends ≡ true
      → get_or l.commits (event_at l.events i).txn 0 ≤ l.latest;
  kept : (i j : ℕ) → i < j → j < l.i → (event_at l.events i).ends ≡ true → (event_at l.events j).ends ≡ false
      → get_or l.commits (event_at l.events i).txn 0 ≤ get_or l.starts (event_at l.events j).txn 0;
}
