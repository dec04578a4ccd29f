use Rattle.std.proofs.Common.{refl}
use Rattle.tx_flat.proofs.Above.{before_none, before_found, before_nearest, before_other}
use Rattle.tx_flat.proofs.drop_below.next_above.Goals as goal

pub returns-in_err-above-clause-none : goal.returns-in_err-above-clause-none
returns-in_err-above-clause-none c =
    rw c.from_residual.ensures
    (before_none c.args.writes.now c.args.version.now c.range.result (c.range.ensures.in_range tt)
    c.in_err-above.ensures.steps.0)

pub returns-then-not-is_beside-clause-none : goal.returns-then-not-is_beside-clause-none
returns-then-not-is_beside-clause-none c =
    before_other c.args.writes.now c.args.version.now c.in_ok-above.above.now c.in_ok-above.rec.now _ c.range.result
    (c.range.ensures.in_range tt) c.in_ok-above.ensures.steps (λ same. cc (c.if-not-is_beside.ensures.1 same))

pub returns-clause-found : goal.returns-clause-found
returns-clause-found c =
    let same = c.if-not-is_beside.ensures.0 refl in
    let f = before_found c.args.writes.now c.args.version.now c.in_ok-above.above.now c.in_ok-above.rec.now _
    c.range.result (c.range.ensures.in_range tt) c.in_ok-above.ensures.steps same in
    (same, f.0, f.1)

pub returns-clause-nearest : goal.returns-clause-nearest
returns-clause-nearest c =
    let same = c.if-not-is_beside.ensures.0 refl in
    before_nearest c.args.writes.now c.args.version.now c.in_ok-above.above.now c.in_ok-above.rec.now _ c.range.result
    (c.range.ensures.in_range tt) c.in_ok-above.ensures.steps same
