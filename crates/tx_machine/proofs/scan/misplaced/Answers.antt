use Rattle.std.specs.Range.Bound.{bound_map}
use Rattle.tx_machine.proofs.Differences.{place_next, place_out, place_end}
use Rattle.tx_machine.proofs.scan.misplaced.Goals as goal

pub loop-row-init : goal.loop-row-init
loop-row-init c = (λ k m. m, λ p. p)

pub loop-row-preserved : goal.loop-row-preserved
loop-row-preserved c =
    place_next c.args.scan.now c.as_slice-rows.result.now c.as_slice-rows.ensures c.loop-row.row-index
    (bound_map (λ x. x.now) c.loop-row.from) c.loop-row.invariant
    c.row-item.result c.loop-row-test.true c.row-item.is (c.is_within.ensures.0 c.if-not-is_within.false)

pub returns-then-not-is_within-clause-some : goal.returns-then-not-is_within-clause-some
returns-then-not-is_within-clause-some c =
    place_out c.args.scan.now c.as_slice-rows.result.now c.as_slice-rows.ensures c.loop-row.row-index
    (bound_map (λ x. x.now) c.loop-row.from) c.loop-row.invariant
    c.row-item.result c.loop-row-test.true c.row-item.is (λ w. cc (c.is_within.ensures.1 w, c.if-not-is_within.true))

pub returns-clause-none : goal.returns-clause-none
returns-clause-none c =
    place_end c.args.scan.now c.as_slice-rows.result.now c.as_slice-rows.ensures c.loop-row.row-index
    (bound_map (λ x. x.now) c.loop-row.from) c.loop-row.invariant c.loop-row-test.false
