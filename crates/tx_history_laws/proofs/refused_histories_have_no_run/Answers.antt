-- A run's timestamps would be an assignment.
use Rattle.tx_history_laws.proofs.refused_histories_have_no_run.Goals as goal

pub returns : goal.returns
returns c h steps key value start commit none run o =
    none start commit (c.runs_are_assignments.ensures h steps key value start commit run o)
