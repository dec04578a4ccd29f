use Rattle.tx_kv.proofs.Sizes.{sized_upto}
use Rattle.tx_kv.proofs.size.size_upto.Goals as goal

pub returns-clause-finds : goal.returns-clause-finds
returns-clause-finds g c =
    sized_upto g.J.JournalId.bounds c.size_between.new.reader.seat.events c.know_run.ensures c.args.reader.now.at
    c.args.from.now c.args.to.now c.in_ok-size.size c.in_ok-size.ensures.finds
