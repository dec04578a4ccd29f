-- One view more.
use Rattle.std.proofs.Common.{get_or, arith}
use Rattle.std.proofs.lemmas.List.Elements.{Contains-get_or}
use Rattle.tx_views.proofs.ReadViews.{below_next}
use Rattle.tx_verdict.specs.Versions.{IsViewFit, no_view}
use Rattle.tx_verdict.proofs.Small.{by_place}
use Rattle.tx_verdict.proofs.fit.are_views_fit.Goals as goal

pub returns : goal.returns
returns c _ = by_place (IsViewFit c.args.recording.now c.args.versions.now) c.args.views.now no_view
    (λ i lt. c.loop-i.invariant i (let end = c.loop-i-test.false in omega (arith, end, lt)))

pub fits_view-requires-clause-there : goal.fits_view-requires-clause-there
fits_view-requires-clause-there c =
    (c.requires.views (get_or c.args.views.now c.loop-i.i no_view)
    (Contains-get_or c.args.views.now c.loop-i.i no_view c.loop-i-test.true)).0

pub loop-i-preserved : goal.loop-i-preserved
loop-i-preserved c =
    below_next (λ q. IsViewFit c.args.recording.now c.args.versions.now (get_or c.args.views.now q no_view)) c.loop-i.i
    c.loop-i.invariant
    (c.fits_view.ensures c.if-not-fits_view.false)
