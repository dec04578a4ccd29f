use Rattle.std.proofs.Common.{◌∷◌, [], ap, ◌∙◌}
use Rattle.tx_acts.specs.Ops.{first_ops, keyed_ops}
use Rattle.tx_acts.proofs.Known.{if_so}
use Rattle.tx_acts.proofs.evidence.ops_with.Goals as goal

pub returns : goal.returns
returns c =
    if_so c.few_ops.result c.few_ops.ensures
    (λ ops e. e ∙ ap (λ os. first_ops (keyed_ops (c.args.key ∷ []) os)) c.ops_at.ensures)
