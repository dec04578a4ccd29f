use Rattle.std.proofs.Common.{◌∙◌}
use Rattle.tx_transfer.proofs.Collections.{due_collects}
use Rattle.tx_transfer.proofs.collector.Collector.collect.Goals as goal

pub returns : goal.returns
returns g c =
    due_collects g.J.JournalId.bounds c.args.self.now c.args.self.now.life_time c.in-Some.life_time c.get-last.result
    c.new.result c.collect-dropped.result c.saturating_add-self-2.result c.saturating_add-self.result
    c.args.context.now.resolver c.last.new.self.resolver c.collect-dropped.new.self.resolver c.in-Some.is
    c.last.ensures.looks (c.get-last.ensures ∙ c.last.ensures.last.0) c.if-last-self.false
    (c.new.ensures ∙ c.saturating_sub.ensures) c.collect-dropped.ensures.collects c.saturating_add-self-2.ensures
    c.saturating_add-self.ensures
