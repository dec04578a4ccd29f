use Rattle.std.proofs.Common.{ap, ◌∙◌}
use Rattle.tx_trace.specs.Traces.{Noted}
use Rattle.tx_trace.proofs.trace.Trace.steps.Goals as goal

pub returns : goal.returns
returns c = c.steps.ensures ∙ ap (λ (n : Noted). n.steps) c.self.view_is
