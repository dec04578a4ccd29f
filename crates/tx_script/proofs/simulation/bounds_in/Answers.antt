use Rattle.std.proofs.Common.{ap, sym, ◌∙◌, option_map}
use Rattle.tx_steps.specs.Lines.{data_of}
use Rattle.tx_steps.proofs.RisingBounds.{fits}
use Rattle.tx_script.proofs.simulation.bounds_in.Goals as goal

pub returns-in-Ok-Some-clause-rising : goal.returns-in-Ok-Some-clause-rising
returns-in-Ok-Some-clause-rising c = (fits (data_of c.in-Ok.said) c.in-Ok-Some.bounds.items
    (sym c.in-Ok-Some.ensures.ok ∙ ap (option_map (λ (b : _). b.items)) c.in-Ok-Some.field-0-is)).0

pub returns-in-Ok-Some-clause-few : goal.returns-in-Ok-Some-clause-few
returns-in-Ok-Some-clause-few c = (fits (data_of c.in-Ok.said) c.in-Ok-Some.bounds.items
    (sym c.in-Ok-Some.ensures.ok ∙ ap (option_map (λ (b : _). b.items)) c.in-Ok-Some.field-0-is)).1
