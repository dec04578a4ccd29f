use Rattle.std.proofs.Common.{sym, ap, ◌∙◌}
use Rattle.tx_resolve.specs.Collection.{gc_walk}
use Rattle.tx_transfer.specs.Collections.{records_of}
use Rattle.tx_transfer.proofs.Sends.{sent_over}
use Rattle.tx_transfer.proofs.context.Context.collect.Goals as goal
use Rattle.tx_transfer.proofs.context.Context.collect.Goals.{in-Ok, in-Err}

pub returns-clause-collects : goal.returns-clause-collects
returns-clause-collects g c = (
  c.gc.result,
  sent_over g.J.JournalId.bounds c.args.self.now.resolver c.gc.new.seat c.new-wire.result c.gc.new.sender
      (gc_walk g.J.JournalId.bounds c.args.safe) c.gc.result c.gc.ensures,
  elim c.match-gc.branch [
    | in-Ok w ↦ w.result-is ∙ ap records_of (sym w.in-Ok.is)
    | in-Err w ↦ w.result-is ∙ ap records_of (sym w.in-Err.is)
  ],
)
