use Rattle.std.proofs.Common.{◌≡◌, ◌<◌, ◌≤◌, ◌∙◌, length, ap, subst, arith}
use Rattle.std.specs.Prelude.{IfOk}
use Rattle.tx_types.specs.declared.key.Key.{Key}
use Rattle.tx_client.specs.Walks.{lesser}
use Rattle.tx_client.proofs.Routes.{high_there, high_past}
use Rattle.tx_client.proofs.session.reads.high_key.Goals as goal

pub returns-then-n-bounds-clause-ok : goal.returns-then-n-bounds-clause-ok
returns-then-n-bounds-clause-ok c =
    let lt : c.args.n < length c.args.bounds.now = omega arith in
    let at = ap (lesser c.args.to.now) c.index-bounds-n.is
    ∙ high_there c.args.to.now c.index-bounds-n.result c.args.bounds.now c.args.n lt in
    subst (λ (k : Key). IfOk c.lesser.result (λ key. key ≡ k)) at c.lesser.ensures.ok

pub returns-clause-ok : goal.returns-clause-ok
returns-clause-ok c =
    let le : length c.args.bounds.now ≤ c.args.n = omega arith in
    subst (λ (k : Key). IfOk c.clone.result (λ key. key ≡ k)) (high_past c.args.to.now c.args.bounds.now c.args.n le)
    c.clone.ensures.ok
