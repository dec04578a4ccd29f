use Rattle.std.proofs.Common.{◌≡◌, Some, option_map, sym, ap, ◌∙◌, arith}
use Rattle.tx_steps.specs.Lines.{data_of, bounds_in}
use Rattle.tx_steps.proofs.RisingBounds.{fits}
use Rattle.tx_workload.proofs.script.ScriptReader.opens.Goals as goal

pub returns-in-Ok-Some-clause-within : goal.returns-in-Ok-Some-clause-within
returns-in-Ok-Some-clause-within g c =
    let is : bounds_in (data_of c.args.line.now) ≡ Some c.in-Ok-Some.bounds.items =
    sym c.in-Ok-Some.ensures.ok ∙ ap (option_map (λ keys. keys.items)) c.in-Ok-Some.field-0-is in
    let found = fits (data_of c.args.line.now) c.in-Ok-Some.bounds.items is in
    (found.0, omega (arith, found.1), c.requires.2)
