-- One read more.
use Rattle.std.proofs.Common.{◌<◌, length, get_or, arith, subst}
use Rattle.std.proofs.lemmas.Grind.{common_steps}
use Rattle.std.proofs.lemmas.List.{get_or_read}
use Rattle.std.proofs.lemmas.List.Elements.{Contains-get_or}
use Rattle.tx_history.specs.declared.recorded.Read.{Read}
use Rattle.tx_views.proofs.ReadViews.{below_next}
use Rattle.tx_verdict.specs.Versions.{no_view}
use Rattle.tx_verdict.specs.Forced.{IsReadForced, no_read}
use Rattle.tx_verdict.proofs.Small.{by_place}
use Rattle.tx_verdict.proofs.necessity.are_reads.Goals as goal

pub loop-i-preserved : goal.loop-i-preserved
loop-i-preserved c =
    let r = c.args.case.now.recording.now in
    let v = c.args.versions.now in
    let reads = v.recorded.reads.items in
    let i = c.loop-i.i in
    let lt : i < length reads = grind (arith, common_steps, c.loop-i-test.true, c.if-len-case.false) in
    below_next (λ q. IsReadForced r v (get_or reads q no_read)) i c.loop-i.invariant
    (subst (λ (p : Read). IsReadForced r v p) (get_or_read reads i c.index.result.now lt c.index.ensures no_read)
    (c.is_read.ensures c.if-not-is_read.false))

pub returns : goal.returns
returns c _ = by_place (IsReadForced c.args.case.now.recording.now c.args.versions.now)
    c.args.versions.now.recorded.reads.items
    no_read
    (λ i lt. c.loop-i.invariant i (grind (arith, common_steps, c.loop-i-test.false, c.if-len-case.false, lt)))

pub is_read-requires-clause-view : goal.is_read-requires-clause-view
is_read-requires-clause-view c =
    c.requires.case.views (get_or c.args.case.now.views.now c.loop-i.i no_view)
    (Contains-get_or c.args.case.now.views.now c.loop-i.i no_view c.loop-i-test.true)
