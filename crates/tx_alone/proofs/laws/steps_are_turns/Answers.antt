use Rattle.tx_alone.proofs.StepTurns.{any_turn, least_turn}
use Rattle.tx_alone.proofs.WalkTurns.{goes_least}
use Rattle.tx_engine.specs.Semantics.{turn}
use Rattle.tx_alone.proofs.laws.steps_are_turns.Goals as goal

pub returns : goal.returns
returns c = record {
  any = any_turn;
  least = least_turn;
  simulated = λ bounds e next what told is. goes_least bounds (λ refused. turn bounds refused what e) told next is;
}
