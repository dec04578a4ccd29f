use Rattle.std.proofs.Common.{sym, ◌∙◌, eq-eqb}
use Rattle.std.specs.Range.Bound.{bound_map}
use Rattle.tx_machine.proofs.Scans.{no_rows, next_seen, full_seen, open_seen}
use Rattle.tx_machine.proofs.scan.sees_rows.Goals as goal

pub returns-then-ge : goal.returns-then-ge
returns-then-ge c =
    let h = no_rows c.args.index.now c.args.fates.now c.args.scan.now (sym c.if-ge.ensures) c.as_slice-rows.result.now
    c.as_slice-rows.ensures in
    (λ t. h.0 (sym c.is_empty.ensures ∙ t), λ w. c.is_empty.ensures ∙ h.1 w)

pub returns-then-not-is_next : goal.returns-then-not-is_next
returns-then-not-is_next c = (
  λ t. absurd (cc t),
  λ h. let e = c.is_next.ensures.1
      (next_seen c.args.index.now c.args.fates.now c.args.scan.now c.as_slice-rows.result.now c.as_slice-rows.ensures
      c.loop-row.row-index (bound_map (λ x. x.now) c.loop-row.from) c.loop-row.invariant.1 c.if-rows-limit.false
      c.row-item.result c.loop-row-test.true c.row-item.is h) in cc (e, c.if-not-is_next.true),
)

pub returns-then-rows-limit-2 : goal.returns-then-rows-limit-2
returns-then-rows-limit-2 c = (
  λ t. full_seen c.args.index.now c.args.fates.now c.args.scan.now c.as_slice-rows.result.now c.as_slice-rows.ensures
      c.loop-row.row-index (bound_map (λ x. x.now) c.loop-row.from) c.loop-row.invariant.1 c.if-rows-limit.false
      c.loop-row-test.false c.if-rows-limit-2.true,
  λ h. eq-eqb _ _ c.if-rows-limit-2.true,
)

pub returns-else-rows-limit-2 : goal.returns-else-rows-limit-2
returns-else-rows-limit-2 c =
    open_seen c.args.index.now c.args.fates.now c.args.scan.now c.as_slice-rows.result.now c.as_slice-rows.ensures
    c.loop-row.row-index (bound_map (λ x. x.now) c.loop-row.from) c.loop-row.invariant.1 c.if-rows-limit.false
    c.loop-row-test.false c.if-rows-limit-2.false c.is_bare.result c.is_bare.ensures
