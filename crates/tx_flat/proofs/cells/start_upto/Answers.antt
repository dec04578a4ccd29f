use Rattle.std.proofs.Common.{refl, ap}
use Rattle.std.specs.Prelude.{is_some}
use Rattle.tx_flat.proofs.Nearest.{from_none, from_found, from_nearest, from_other}
use Rattle.tx_flat.proofs.cells.start_upto.Goals as goal

pub returns-in_err-version-clause-none : goal.returns-in_err-version-clause-none
returns-in_err-version-clause-none c =
    rw c.from_residual.ensures
    (from_none c.args.values.now c.args.bound.now (rw c.in_err-version.ensures.steps.0 at c.range.ensures.in_range tt))

pub returns-then-not-is_beside-clause-none : goal.returns-then-not-is_beside-clause-none
returns-then-not-is_beside-clause-none c =
    from_other c.args.values.now c.args.bound.now c.in_ok-version.version.now c.in_ok-version.value.now c.next.new.self
    (rw c.in_ok-version.ensures.steps at c.range.ensures.in_range tt)
    (λ same. cc (c.if-not-is_beside.ensures.1 same))

pub returns-clause-found : goal.returns-clause-found
returns-clause-found c =
    let same = c.if-not-is_beside.ensures.0 refl in
    let f = from_found c.args.values.now c.args.bound.now c.in_ok-version.version.now c.in_ok-version.value.now
    c.next.new.self (rw c.in_ok-version.ensures.steps at c.range.ensures.in_range tt) same in
    rw c.at.ensures (f.0, ap is_some f.1)

pub returns-clause-nearest : goal.returns-clause-nearest
returns-clause-nearest c = λ q le some.
    let same = c.if-not-is_beside.ensures.0 refl in
    rw c.at.ensures (from_nearest c.args.values.now c.args.bound.now c.in_ok-version.version.now
    c.in_ok-version.value.now c.next.new.self (rw c.in_ok-version.ensures.steps at c.range.ensures.in_range tt) same
    q le some)
