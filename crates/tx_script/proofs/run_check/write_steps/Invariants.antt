use Rattle.std.proofs.Common.{map, take}
use Rattle.std.specs.List.{concat}
use Rattle.std.specs.Io.KnownBytes.{Appends}
use Rattle.tx_check.specs.Steps.{step_text}
use Rattle.tx_script.proofs.run_check.write_steps.Given as goal

abbrev pub invariant-steps : goal.invariant-steps
invariant-steps g l = Appends (g.W.Write.contents l.fn.writer) (g.W.Write.contents l.writer)
    (concat (map step_text (take l.step-index l.steps)))
