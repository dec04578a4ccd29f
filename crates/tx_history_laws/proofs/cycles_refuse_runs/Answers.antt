-- A run's timestamps give numbers that rise.
use Rattle.tx_history_laws.proofs.cycles_refuse_runs.Goals as goal

pub returns : goal.returns
returns c h steps key value start commit none run o =
    none _ _ (c.assignments_are_orders.ensures h start commit
    (c.runs_are_assignments.ensures h steps key value start commit run o))
