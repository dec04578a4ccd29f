use Rattle.std.proofs.Common.{drop}
use Rattle.std.specs.Prelude.{Contains}
use Rattle.tx_types.specs.declared.lock.LockInfo.{LockInfo}
use Rattle.tx_core.specs.Worlds.{IsWorldRun}
use Rattle.tx_core.specs.Laws.{WasToldOf}
use Rattle.tx_client.specs.Walks.{Continues}
use Rattle.tx_resolve.specs.Collection.{locks_walk}
use Rattle.tx_resolve.proofs.collector.resolve_each.Given as goal

-- the locks that are left, and that they were told of
abbrev pub invariant-loop-info : goal.invariant-loop-info
invariant-loop-info g l = record {
  sends : Continues g.S.Sender.sends g.J.JournalId.bounds l.initial.seat l.initial.sender (locks_walk l.infos) l.seat
      l.sender (locks_walk (drop l.info-index l.infos));
  run : IsWorldRun g.J.JournalId.bounds l.seat.events;
  told : (info : LockInfo) → Contains l.infos info → WasToldOf l.seat.events info;
}
