use Rattle.std.proofs.Common.{◌≡◌, ◌≤◌, ℕ, take, map, cond, Some}
use Rattle.std.specs.Option.{option_map}
use Rattle.tx_latch.specs.Asked.{contains}
use Rattle.tx_latch.specs.Queues.{links, joined, count_links, last_of, position_of, room_at}
use Rattle.tx_latch.proofs.Steps.{is_last}
use Rattle.tx_latch.proofs.queues.Queues.join.Given as goal

abbrev pub invariant-loop-slot : goal.invariant-loop-slot
invariant-loop-slot l = record {
  same : links l.self.asked.items
      ≡ map (option_map (joined l.cid (last_of l.initial.self) (take l.slot-index l.slots)))
      (links l.initial.self.asked.items);
  count : l.ahead ≡ count_links (is_last (last_of l.initial.self) (take l.slot-index l.slots))
      (links l.initial.self.asked.items);
  lasts : (s : ℕ) → last_of l.self s
      ≡ cond (contains s (take l.slot-index l.slots)) (Some l.cid) (last_of l.initial.self s);
  found : (c : ℕ) → position_of l.self c ≡ position_of l.initial.self c;
  wide : (i : ℕ) → room_at l.initial.self.asked.items i ≤ room_at l.self.asked.items i;
  few : l.ahead ≤ l.slot-index;
}
