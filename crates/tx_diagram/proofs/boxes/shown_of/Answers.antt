use Rattle.std.proofs.Common.{ap, ◌∙◌}
use Rattle.tx_acts.specs.Ops.{shown_ops}
use Rattle.tx_diagram.proofs.Known.{if_so}
use Rattle.tx_diagram.proofs.boxes.shown_of.Goals as goal

pub returns : goal.returns
returns c =
    if_so c.shown_ops.result c.shown_ops.ensures (λ ops e. e ∙ ap (shown_ops c.args.keys.now) c.ops_at.ensures)
