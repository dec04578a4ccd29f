use Rattle.std.proofs.Common.{take, reverse}
use Rattle.tx_machine.specs.Machine.{IsRun, table_of}
use Rattle.tx_machine.specs.Representation.{Represents}
use Rattle.tx_machine.proofs.trace.check_steps.Given as goal

abbrev pub invariant-loop-step : goal.invariant-loop-step
invariant-loop-step l = record {
  run : IsRun (reverse (take l.step-index l.steps));
  stands : Represents l.machine (table_of (reverse (take l.step-index l.steps)));
}
