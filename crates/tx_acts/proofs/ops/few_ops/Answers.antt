use Rattle.std.proofs.Common.{ap, ◌∙◌}
use Rattle.tx_acts.specs.Ops.{first_ops}
use Rattle.tx_acts.proofs.Known.{if_so}
use Rattle.tx_acts.proofs.ops.few_ops.Goals as goal

pub returns : goal.returns
returns c =
    if_so c.same_ops.result c.same_ops.ensures
    (λ few e. e ∙ c.first_ops.ensures ∙ ap first_ops (c.as_slice.ensures.value ∙ c.in_ok-keyed.ensures))
