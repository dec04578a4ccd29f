use Rattle.tx_plan.proofs.KeyOrder.{lt_le}
use Rattle.tx_update.specs.Reads.{SeesOn}
use Rattle.tx_update.proofs.Pages.{first_page}
use Rattle.tx_update.proofs.Ranges.{range_upto}
use Rattle.tx_kv.proofs.Views.{SeenAt, seen_now}
use Rattle.tx_kv.proofs.pages.first_rows.Goals as goal

pub returns-clause-finds : goal.returns-clause-finds
returns-clause-finds g c =
    let bounds = g.J.JournalId.bounds in
    let events = c.page.new.reader.seat.events in
    let at = c.args.reader.now.at in
    let from = c.args.from.now in
    let part = c.in_ok-part.part in
    let front = c.split_page.result.0.items in
    let upto = c.split_page.result.1 in
    range_upto bounds events at (SeenAt events at) (seen_now bounds events c.know_run.ensures at) from upto front
    (first_page (SeesOn bounds events at) from part.1 c.args.limit upto part.0 front
    (lt_le from part.1 (c.in_ok-part.ensures.some c.requires.below)) c.in_ok-part.ensures.finds c.split_page.ensures)
