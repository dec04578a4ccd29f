use Rattle.tx_core.proofs.unique.OneAnswer.{one_answer}
use Rattle.tx_core.proofs.answers.one_answer.Goals as goal

pub returns : goal.returns
returns c = one_answer
