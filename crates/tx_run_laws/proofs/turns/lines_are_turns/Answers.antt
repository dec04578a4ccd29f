use Rattle.tx_run_laws.proofs.LineTurns.{begun_turn, ended_turn, fault_turn, line_turn, stopped_turn}
use Rattle.tx_run_laws.proofs.turns.lines_are_turns.Goals as goal

pub returns : goal.returns
returns c = record {
  steps = line_turn;
  begins = begun_turn;
  ends = ended_turn;
  open_yet = fault_turn;
  stops = stopped_turn;
}
