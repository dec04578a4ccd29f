-- The first value that the writer appended, in front or behind one of the writer before.
use Rattle.std.proofs.Common.{refl, subst, slice_index}
use Rattle.std.proofs.lemmas.Bool.{eqb-true}
use Rattle.tx_verdict.specs.Reasons.{AddsFirst}
use Rattle.tx_verdict.proofs.Views.{view_saw}
use Rattle.tx_verdict.proofs.Chains.{within_first, within_next}
use Rattle.tx_verdict.proofs.chain.is_within.Goals as goal

pub returns-then-i-eq0 : goal.returns-then-i-eq0
returns-then-i-eq0 c is =
    let r = c.args.case.now.recording.now in
    let list = c.list_of-list.result.now in
    let v = c.args.view in
    let adds = subst (λ os. AddsFirst os c.args.key (slice_index list c.args.place)) c.ops_of.ensures.are
    (c.in_ok-is_first.ensures c.if-not-branch.false) in
    within_first r c.args.key c.args.writers.now c.args.i list v.txn c.args.place c.if-i-eq0.true
    (eqb-true c.args.place 0 is)
    (view_saw r v list v.txn c.args.key c.requires.view refl c.if-view-key.false c.list_of-list.ensures)
    c.if-place-list.false
    adds

pub returns : goal.returns
returns c is =
    let r = c.args.case.now.recording.now in
    let list = c.list_of-list.result.now in
    let v = c.args.view in
    let adds = subst (λ os. AddsFirst os c.args.key (slice_index list c.args.place)) c.ops_of.ensures.are
    (c.in_ok-is_first.ensures c.if-not-branch.false) in
    within_next r c.args.case.now.owners.now c.requires.case.owners c.args.key c.args.writers.now c.args.i list
    v.txn c.args.place
    c.if-i-eq0.false c.if-place-eq0.false
    (view_saw r v list v.txn c.args.key c.requires.view refl c.if-view-key.false c.list_of-list.ensures)
    c.if-place-list.false
    adds (c.is_by.ensures is)
