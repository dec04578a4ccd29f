use Rattle.tx_alone.specs.Turns.{LeastMinimum}
use Rattle.tx_alone.proofs.LifeTurns.{begin_turn, finish_turn, open_turn, stop_turn, unopened_turn}
use Rattle.tx_alone.proofs.laws.lives_are_turns.Goals as goal

pub returns : goal.returns
returns c = record {
  begins = λ bounds e name k seat s free named begun alone.
      begin_turn LeastMinimum bounds e name k seat s free named begun alone;
  finishes = λ bounds e name k old seat o live is records alone.
      finish_turn LeastMinimum bounds e name k old seat live o is records alone;
  open_yet = λ bounds e next name k old live none. open_turn LeastMinimum bounds e name k old next live none;
  stops = λ bounds e name k old seat live left alone. stop_turn LeastMinimum bounds e name k old seat live left alone;
  unopened = λ bounds e next name what none is. unopened_turn LeastMinimum bounds e name what next none is;
}
