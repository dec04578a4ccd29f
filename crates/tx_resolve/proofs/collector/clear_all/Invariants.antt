use Rattle.std.proofs.Common.{◌+◌, ◌-◌, length}
use Rattle.tx_core.specs.Worlds.{IsWorldRun}
use Rattle.tx_client.specs.Walks.{Continues}
use Rattle.tx_resolve.specs.Collection.{in_regions, clear_walk, clears_walk}
use Rattle.tx_resolve.proofs.collector.clear_all.Given as goal

-- the regions that are left
abbrev pub invariant-loop-n : goal.invariant-loop-n
invariant-loop-n g l = record {
  sends : Continues g.S.Sender.sends g.J.JournalId.bounds l.initial.seat l.initial.sender
      (clears_walk g.J.JournalId.bounds l.safe) l.seat l.sender
      (in_regions (λ q u. clear_walk l.safe q) (length g.J.JournalId.bounds + 1 - l.n) l.n tt);
  run : IsWorldRun g.J.JournalId.bounds l.seat.events;
}
