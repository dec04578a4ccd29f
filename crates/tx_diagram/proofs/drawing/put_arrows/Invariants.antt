use Rattle.std.proofs.Common.{◌≡◌, ◌++◌, take}
use Rattle.std.specs.List.{flat_map}
use Rattle.tx_diagram.specs.Drawings.{arrow_text}
use Rattle.tx_diagram.proofs.drawing.put_arrows.Given as goal

abbrev pub invariant-loop-step : goal.invariant-loop-step
invariant-loop-step l = l.out.items ≡ l.fn.out.items ++ flat_map (arrow_text l.history) (take l.step-index l.steps)
