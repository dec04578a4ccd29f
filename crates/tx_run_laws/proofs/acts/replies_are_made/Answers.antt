use Rattle.tx_run_laws.proofs.LineActs.{act_done, call_answered}
use Rattle.tx_run_laws.proofs.acts.replies_are_made.Goals as goal

pub returns : goal.returns
returns c = record { done = act_done; answered = call_answered }
