use Rattle.tx_machine.proofs.Executions.{serial}
use Rattle.tx_machine.proofs.laws.locked_runs_are_serial.Goals as goal

pub returns : goal.returns
returns c = serial
