-- One key more, and past the last there are no versions.
use Rattle.std.proofs.Common.{arith}
use Rattle.std.proofs.lemmas.Grind.{common_steps}
use Rattle.tx_history.proofs.Graphs.{key_within}
use Rattle.tx_views.proofs.ReadViews.{below_next}
use Rattle.tx_verdict.specs.Versions.{IsKeyFit}
use Rattle.tx_verdict.proofs.fit.fits_keys.Goals as goal

pub returns : goal.returns
returns c _ k i lt =
    let within = key_within c.args.versions.now.recorded k (omega (arith, lt)) in
    c.loop-key.invariant k (grind (arith, common_steps, c.loop-key-test.false, c.len-key-end.ensures, within)) i lt

pub loop-key-preserved : goal.loop-key-preserved
loop-key-preserved c =
    below_next (IsKeyFit c.args.recording.now c.args.versions.now) c.loop-key.key c.loop-key.invariant
    (c.in_ok-fits_key.ensures c.if-not-branch.false)
