use Rattle.tx_transfer.proofs.Resolutions.{resolved_over}
use Rattle.tx_transfer.proofs.LearntLocks.{told_after}
use Rattle.tx_transfer.proofs.context.Context.resolve_lock.Goals as goal

pub resolve-requires-clause-told : goal.resolve-requires-clause-told
resolve-requires-clause-told g c =
    told_after g.J.JournalId.bounds c.learn.new.self.seat c.args.told
    c.learn.new.self.events c.last-last.new.self.events c.args.info.now c.requires c.learn.ensures.told
    c.last-last.ensures.seen

pub returns-clause-sends : goal.returns-clause-sends
returns-clause-sends g c =
    resolved_over g.J.JournalId.bounds c.args.self.now.resolver c.learn.new.self c.last-last.new.self
    c.resolve.new.seat c.new-wire.result c.resolve.new.sender c.args.info.now c.args.told c.args.reader
    c.unwrap_or.result c.last-last.result c.args.now c.resolve.result.status
    (record {
      number = c.learn.ensures.same.0;
      ticks = c.learn.ensures.same.1;
      seen = c.learn.ensures.seen;
      knows = c.learn.ensures.told;
      own = c.learn.ensures.own;
    })
    (record {
      number = c.last-last.ensures.same.0;
      ticks = c.last-last.ensures.same.1;
      seen = c.last-last.ensures.seen;
    })
    c.unwrap_or.ensures c.last-last.ensures.last.0 c.resolve.ensures.sends
