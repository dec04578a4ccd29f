-- All of it together.
use Rattle.std.proofs.Common.{◌≤◌, arith}
use Rattle.std.proofs.lemmas.Grind.{common_steps}
use Rattle.tx_recording.specs.Recordings.{txns_of}
use Rattle.tx_verdict.proofs.Small.{if_fits}
use Rattle.tx_verdict.proofs.Together.{fit_of}
use Rattle.tx_verdict.proofs.fit.is_fit.Goals as goal

pub returns : goal.returns
returns c =
    let r = c.args.recording.now in
    let v = c.args.versions.now in
    let enough : txns_of r ≤ v.recorded.txns = grind (arith, common_steps, c.if-versions-len.false) in
    if_fits _ _ c.fits_keys.result
    (λ keys. fit_of r c.args.views.now v enough (c.are_live.ensures.ok c.if-not-are_live.false)
    (c.are_live.ensures.fail c.if-not-are_live.false)
    (c.are_placed.ensures c.if-not-are_placed.false)
    (c.are_views_fit.ensures c.if-not-are_views_fit.false) keys) c.fits_keys.ensures
