use Rattle.std.proofs.Common.{◌≡◌, ◌<◌, ◌∙◌, subst, arith}
use Rattle.std.specs.Prelude.{IfOk}
use Rattle.tx_types.specs.declared.key.Key.{Key}
use Rattle.tx_client.specs.Walks.{greater}
use Rattle.tx_client.proofs.Routes.{low_there}
use Rattle.tx_client.proofs.session.reads.low_key.Goals as goal

pub returns-clause-ok : goal.returns-clause-ok
returns-clause-ok c =
    let some : 0 < c.args.n = omega (arith, c.if-n-eq0.false) in
    let at = c.index-bounds-n.is
    ∙ low_there c.args.from.now c.index-bounds-n.result c.args.bounds.now c.args.n some c.requires in
    subst (λ (k : Key). IfOk c.greater.result (λ key. key ≡ greater c.args.from.now k)) at c.greater.ensures.ok
