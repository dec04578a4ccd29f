use Rattle.tx_onward.specs.Untold.{untold}
use Rattle.tx_answers.proofs.Onward.{SoFar}
use Rattle.tx_answers.proofs.all.judged_to_end.Given as goal

abbrev pub invariant-verdicts : goal.invariant-verdicts
invariant-verdicts l = SoFar l.options l.history l.told.items l.answer.text.items l.answer.end l.is_first

abbrev pub decreases-verdicts : goal.decreases-verdicts
decreases-verdicts l = untold l.told.items
