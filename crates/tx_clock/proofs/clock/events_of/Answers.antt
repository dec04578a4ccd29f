-- A sort only moves events.
use Rattle.std.proofs.Common.{◌≡◌, ℕ, Contains, true, false, rules}
use Rattle.std.proofs.lemmas.List.Sorted.{IsNonDecreasingBy-from_sort_by_key, Contains-permutation}
use Rattle.tx_clock.specs.declared.clock.ClockEvent.{ClockEvent}
use Rattle.tx_clock.proofs.clock.events_of.Goals as goal

pub returns : goal.returns
returns c = record {
  begun = λ u b lt live at. Contains-permutation _ _ record { time = b; txn = u; ends = false }
      c.sort_by_key.ensures.permutation
      (c.in_ok-add_ends.ensures.kept record { time = b; txn = u; ends = false }
      (c.in_ok-add_begins.ensures u b lt live at));
  ended = λ t e lt ok at. Contains-permutation _ _ record { time = e; txn = t; ends = true }
      c.sort_by_key.ensures.permutation
      (c.in_ok-add_ends.ensures.has t e lt ok at);
  rising = IsNonDecreasingBy-from_sort_by_key (λ (x : ClockEvent). x.time) _ c.in_ok-sort_by_key.ensures.sorted
      (λ a r f called. search rules);
}
