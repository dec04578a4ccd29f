use Rattle.tx_alone.proofs.CountedWalks.{step_counts, step_stores}
use Rattle.tx_alone.proofs.laws.answers_are_counted.Goals as goal

pub returns : goal.returns
returns c = record { counts = step_counts; stores = step_stores }
