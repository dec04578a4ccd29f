-- They differ where both have a value.
use Rattle.tx_verdict.proofs.Torn.{fact_orders}
use Rattle.tx_verdict.proofs.lists.wrong_order.Goals as goal

pub returns : goal.returns
returns c =
    fact_orders c.args.recording.now c.args.view c.args.other c.requires.list c.requires.view c.requires.other
    c.if-view-other.false
    c.list_of-list.result.now c.list_of.result.now c.list_of-list.ensures c.list_of.ensures c.in_ok-place.place
    c.in_ok-place.ensures.0 c.in_ok-place.ensures.1 c.in_ok-place.ensures.2
