use Rattle.std.proofs.Common.{sym, ap, ◌==◌, ◌∙◌, List, length}
use Rattle.std.specs.Range.Bound.{bound_map}
use Rattle.tx_types.specs.declared.mutation.KeyValue.{KeyValue}
use Rattle.tx_machine.proofs.Scans.{no_rows}
use Rattle.tx_machine.proofs.Differences.{none_placed, here_from, here_differs, here_next, behind_differs, behind_none, if_some, if_none}
use Rattle.tx_machine.proofs.scan.differing.Goals as goal

pub returns-then-ge-clause-none : goal.returns-then-ge-clause-none
returns-then-ge-clause-none c =
    let none = none_placed c.args.scan.now.from c.args.scan.now.to c.args.scan.now.rows (sym c.if-ge.ensures)
    c.requires.placed in
    (no_rows c.args.index.now c.args.fates.now c.args.scan.now (sym c.if-ge.ensures) c.as_slice-rows.result.now
    c.as_slice-rows.ensures).0 (ap (λ (xs : List KeyValue). length xs == 0) (c.as_slice-rows.ensures ∙ none))

pub row_differing-requires : goal.row_differing-requires
row_differing-requires c =
    here_from c.args.scan.now c.as_slice-rows.result.now c.as_slice-rows.ensures c.loop-row.row-index c.args.index.now
    c.args.fates.now (bound_map (λ x. x.now) c.loop-row.from) c.loop-row.invariant
    c.row-item.result c.loop-row-test.true c.row-item.is

pub loop-row-preserved : goal.loop-row-preserved
loop-row-preserved c =
    here_next c.args.scan.now c.as_slice-rows.result.now c.as_slice-rows.ensures c.loop-row.row-index c.args.index.now
    c.args.fates.now (bound_map (λ x. x.now) c.loop-row.from) c.loop-row.invariant
    c.row-item.result c.loop-row-test.true c.row-item.is c.in_default.ensures.none

pub returns-in-Some-clause-some : goal.returns-in-Some-clause-some
returns-in-Some-clause-some c =
    here_differs c.args.scan.now c.as_slice-rows.result.now c.as_slice-rows.ensures c.loop-row.row-index
    c.args.index.now c.args.fates.now (bound_map (λ x. x.now) c.loop-row.from) c.loop-row.invariant
    c.row-item.result c.loop-row-test.true c.row-item.is c.in-Some.key.now c.in-Some.ensures.some

pub first_shown-requires : goal.first_shown-requires
first_shown-requires c = c.loop-row.invariant.ends

pub returns-clause-some : goal.returns-clause-some
returns-clause-some c =
    if_some c.first_shown.result
    (λ k h. behind_differs c.args.scan.now c.as_slice-rows.result.now c.as_slice-rows.ensures c.loop-row.row-index
    c.args.index.now c.args.fates.now (bound_map (λ x. x.now) c.loop-row.from) c.loop-row.invariant
    c.loop-row-test.false c.requires.upto c.if-rows-scan.false k.now h) c.first_shown.ensures.some

pub returns-clause-none : goal.returns-clause-none
returns-clause-none c =
    if_none c.first_shown.result
    (λ h. behind_none c.args.scan.now c.as_slice-rows.result.now c.as_slice-rows.ensures c.loop-row.row-index
    c.args.index.now c.args.fates.now (bound_map (λ x. x.now) c.loop-row.from) c.loop-row.invariant
    c.loop-row-test.false c.requires.upto (λ short. h)) c.first_shown.ensures.none

pub returns-then-rows-scan-clause-none : goal.returns-then-rows-scan-clause-none
returns-then-rows-scan-clause-none c =
    behind_none c.args.scan.now c.as_slice-rows.result.now c.as_slice-rows.ensures c.loop-row.row-index c.args.index.now
    c.args.fates.now (bound_map (λ x. x.now) c.loop-row.from) c.loop-row.invariant
    c.loop-row-test.false c.requires.upto (λ short. absurd (short c.if-rows-scan.true))
