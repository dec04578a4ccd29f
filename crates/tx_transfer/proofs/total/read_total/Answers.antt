use Rattle.tx_transfer.proofs.Totals.{total_read, total_knows}
use Rattle.tx_transfer.proofs.total.read_total.Goals as goal

pub returns-in-Ok-clause-total : goal.returns-in-Ok-clause-total
returns-in-Ok-clause-total g c =
    total_read g.J.JournalId.bounds c.args.seat c.in-Ok.session c.read_all-read.new.session c.stop.result _
    c.in-Ok.ensures.ok.1 c.read_all-read.ensures.knows c.stop.ensures c.read_all-read.result c.ended.result
    c.ended.ensures.same c.read_all-read.ensures.sum

pub returns-in-Ok-clause-knows : goal.returns-in-Ok-clause-knows
returns-in-Ok-clause-knows g c =
    total_knows g.J.JournalId.bounds c.args.seat c.in-Ok.session c.read_all-read.new.session c.stop.result _
    c.in-Ok.ensures.ok.1 c.read_all-read.ensures.knows c.stop.ensures c.read_all-read.result c.ended.result
    c.ended.ensures.same
