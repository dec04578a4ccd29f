use Rattle.std.proofs.Common.{◌+◌, drop, refl}
use Rattle.tx_resolve.specs.Collection.{locks_walk}
use Rattle.tx_resolve.specs.Resolution.{resolve_walk}
use Rattle.tx_resolve.specs.declared.findings.For.TheVariants.{Collector}
use Rattle.tx_resolve.proofs.Knowledge.{told_on, sent_more}
use Rattle.tx_resolve.proofs.Others.{next_of}
use Rattle.tx_resolve.proofs.Regions.{more_resolved}
use Rattle.tx_resolve.proofs.collector.resolve_each.Goals as goal

pub loop-info-preserved : goal.loop-info-preserved
loop-info-preserved g c =
    let infos = c.args.infos.now in
    let i = c.loop-info.info-index in
    let info = c.info-item.result in
    let left = next_of infos i (i + 1) info refl c.loop-info-test.true c.info-item.is in
    let more = sent_more g.S.Sender.sends g.J.JournalId.bounds (resolve_walk info Collector) c.loop-info.seat
    c.resolve_for.new.seat c.loop-info.sender c.resolve_for.new.sender c.resolve_for.result
    c.loop-info.invariant.run c.resolve_for.ensures.sends in
    record {
      sends = more_resolved g.S.Sender.sends g.J.JournalId.bounds c.args.seat.now c.args.sender.now (locks_walk infos)
          c.loop-info.seat c.loop-info.sender info (drop (i + 1) infos) (drop i infos) c.resolve_for.result
          c.resolve_for.new.seat c.resolve_for.new.sender left c.loop-info.invariant.sends c.resolve_for.ensures.sends;
      run = more.0;
      told = λ other has. told_on c.loop-info.seat.events c.resolve_for.new.seat.events more.1 other
          (c.loop-info.invariant.told other has);
    }
