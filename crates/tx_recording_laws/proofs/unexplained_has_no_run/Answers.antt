-- The run's timestamps would explain it.
use Rattle.tx_recording_laws.proofs.unexplained_has_no_run.Goals as goal

pub returns : goal.returns
returns c r orders steps x key value none run o = none x (c.runs_explain.ensures r orders steps x key value run o)
