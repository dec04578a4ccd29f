use Rattle.tx_update.proofs.Ranges.{range_upto}
use Rattle.tx_kv.proofs.Views.{SeenAt, seen_now}
use Rattle.tx_kv.proofs.ranges.rows_upto.Goals as goal

pub returns-clause-finds : goal.returns-clause-finds
returns-clause-finds g c =
    let bounds = g.J.JournalId.bounds in
    let events = c.pages.new.reader.seat.events in
    let at = c.args.reader.now.at in
    range_upto bounds events at (SeenAt events at) (seen_now bounds events c.know_run.ensures at) c.args.from.now
    c.args.to.now c.in_ok-rows.rows.items c.in_ok-rows.ensures.finds
