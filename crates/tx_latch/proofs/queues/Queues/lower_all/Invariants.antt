use Rattle.std.proofs.Common.{◌≡◌, ◌≤◌, ℕ, take, map}
use Rattle.std.specs.Option.{option_map}
use Rattle.tx_latch.specs.Queues.{links, lowered_in, position_of, room_at}
use Rattle.tx_latch.proofs.queues.Queues.lower_all.Given as goal

abbrev pub invariant-loop-cid : goal.invariant-loop-cid
invariant-loop-cid l = record {
  same : links l.self.asked.items
      ≡ map (option_map (lowered_in (take l.cid-index l.cids))) (links l.initial.self.asked.items);
  found : (c : ℕ) → position_of l.self c ≡ position_of l.initial.self c;
  lasts : l.self.last ≡ l.initial.self.last;
  wide : (i : ℕ) → room_at l.initial.self.asked.items i ≤ room_at l.self.asked.items i;
}
