use Rattle.std.proofs.Common.{◌≡◌, ℕ, take}
use Rattle.tx_latch.specs.Queues.{links, position_of, replaced}
use Rattle.tx_latch.proofs.queues.Queues.number_all.Given as goal

abbrev pub invariant-loop-position : goal.invariant-loop-position
invariant-loop-position l = record {
  asked : l.self.asked ≡ l.initial.self.asked;
  lasts : l.self.last ≡ l.initial.self.last;
  placed : (c : ℕ) → position_of l.self c
      ≡ replaced (take l.position (links l.initial.self.asked.items)) 0 c (position_of l.initial.self c);
}
