use Rattle.std.proofs.Common.{take, drop}
use Rattle.tx_client.specs.Walks.{Continues}
use Rattle.tx_resolve.specs.Resolution.{others_walk}
use Rattle.tx_resolve.specs.Facts.{Knows, IsPrimarysLock, HadLocks}
use Rattle.tx_resolve.proofs.resolver.ask_others.Given as goal

-- what is left to be asked, and that each key so far had an async lock
abbrev pub invariant-loop-key : goal.invariant-loop-key
invariant-loop-key g l = record {
  sends : Continues g.S.Sender.sends g.J.JournalId.bounds l.initial.seat l.initial.sender
      (others_walk l.met.start l.key-items l.primary.min) l.seat l.sender
      (others_walk l.met.start (drop l.key-index l.key-items) l.most);
  knows : Knows g.J.JournalId.bounds l.seat.events l.met;
  primary : IsPrimarysLock l.seat.events l.met.start l.primary;
  locks : HadLocks l.seat.events l.met.start (take l.key-index l.key-items) l.primary.min l.most;
}
