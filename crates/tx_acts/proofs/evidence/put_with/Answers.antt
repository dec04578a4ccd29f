use Rattle.std.proofs.Common.{◌++◌, ap, ◌∙◌}
use Rattle.tx_acts.specs.Shown.{behind_text}
use Rattle.tx_ring.proofs.Pieces.{on_so}
use Rattle.tx_acts.proofs.evidence.put_with.Goals as goal

pub returns : goal.returns
returns c =
    on_so c.put_all.result c.put_all.ensures (λ e.
    e ∙ ap (λ os. c.args.out.now.items ++ behind_text c.args.history.now os)
    (c.as_slice.ensures.value ∙ c.in_ok-ops.ensures))
