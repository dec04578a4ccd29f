-- The timestamps of the history explain the recording.
use Rattle.std.proofs.Common.{◌≡◌, ℕ, Bool, List, subst, refl}
use Rattle.tx_verdict.specs.declared.question.Level.TheVariants.{Serializable}
use Rattle.tx_recording.specs.Explanations.{Precedes}
use Rattle.tx_clock.specs.KeptOrder.{KeepsPairs}
use Rattle.tx_verdict.specs.declared.verdict.Timestamps.{Timestamps}
use Rattle.tx_verdict.specs.Fits.{AreInTurn}
use Rattle.tx_verdict.proofs.Together.{timestamps_of}
use Rattle.tx_verdict.proofs.evidence.timestamps.Goals as goal

pub returns : goal.returns
returns c =
    let before = c.in_ok-keeps_orders.ensures c.if-not-branch-2.false in
    let K : List Bool → List ℕ → List ℕ → Type 0 =
    KeepsPairs (Precedes c.args.case.now.recording.now c.args.case.now.question.orders) in
    let P : List Bool → Type 0 = λ q. K q c.as_slice.result.now c.as_slice-2.result.now in
    let Q : List ℕ → Type 0 = λ q. K c.args.versions.live.items q c.as_slice-2.result.now in
    let R : List ℕ → Type 0 = λ q. K c.args.versions.live.items c.args.starts.items q in
    let keeps = subst R c.as_slice-2.ensures.value
    (subst Q c.as_slice.ensures.value (subst P c.as_slice-live.ensures.value before)) in
    let turns = c.in_ok-keeps_level.ensures c.if-not-branch-3.false in
    let S : List Bool → Type 0 = λ q. c.args.case.now.question.level ≡ Serializable
    → AreInTurn q c.as_slice-3.result.now c.as_slice-4.result.now in
    let T : List ℕ → Type 0 = λ q. c.args.case.now.question.level ≡ Serializable
    → AreInTurn c.args.versions.live.items q c.as_slice-4.result.now in
    let U : List ℕ → Type 0 = λ q. c.args.case.now.question.level ≡ Serializable
    → AreInTurn c.args.versions.live.items c.args.starts.items q in
    let serial = subst U c.as_slice-4.ensures.value
    (subst T c.as_slice-3.ensures.value (subst S c.as_slice-live.ensures.value turns)) in
    let t : Timestamps = record {
      committed = c.args.versions.live;
      starts = c.args.starts;
      commits = c.args.commits;
    } in
    timestamps_of c.args.case.now.recording.now c.args.case.now.question c.args.case.now.views.now
    c.args.versions c.args.starts.items
    c.args.commits.items t
    refl refl refl c.requires.views (c.in_ok-is_fit.ensures c.if-not-branch.false) c.requires.assigned
    keeps serial
