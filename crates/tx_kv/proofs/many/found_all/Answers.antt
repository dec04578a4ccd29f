use Rattle.tx_kv.proofs.Views.{if_each_now}
use Rattle.tx_kv.proofs.many.found_all.Goals as goal

pub returns-clause-finds : goal.returns-clause-finds
returns-clause-finds g c =
    if_each_now g.J.JournalId.bounds c.found_each-found.new.reader.seat.events c.know_run.ensures
    c.args.reader.now.at c.args.keys.now c.found_each-found.result c.found_each-found.ensures.finds
