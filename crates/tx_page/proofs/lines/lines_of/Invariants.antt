use Rattle.std.proofs.Common.{◌≡◌, take}
use Rattle.std.specs.List.{flat_map}
use Rattle.tx_check.specs.Steps.{step_text}
use Rattle.tx_page.proofs.lines.lines_of.Given as goal

abbrev pub invariant-loop-step : goal.invariant-loop-step
invariant-loop-step l = l.text.items ≡ flat_map step_text (take l.step-index l.steps)
