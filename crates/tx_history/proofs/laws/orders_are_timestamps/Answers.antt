-- The places rise along the history's edges.
use Rattle.tx_history.proofs.Timestamps.{places_rise}
use Rattle.tx_history.proofs.laws.orders_are_timestamps.Goals as goal

pub returns : goal.returns
returns c h edges places starts commits written graph within order at_start at_commit =
    c.orders_are_assignments.ensures h _ _ written
    (places_rise h edges h.txns places starts commits graph within order at_start at_commit)
