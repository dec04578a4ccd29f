-- One operation more.
use Rattle.std.proofs.Common.{◌≡◌, ℕ, ◌<◌, length, subst, refl, sym, ap, arith}
use Rattle.tx_views.specs.Views.{IsAnswered}
use Rattle.tx_views.proofs.ReadViews.{below_next, answered_more}
use Rattle.tx_views.proofs.view.add_views.Goals as goal

pub returns-then-not-branch-clause-kept : goal.returns-then-not-branch-clause-kept
returns-then-not-branch-clause-kept c v is = c.in_ok-add_view.ensures.kept v (c.loop-place.invariant.kept v is)

pub loop-place-preserved : goal.loop-place-preserved
loop-place-preserved c =
    let r = c.args.recording.now in
    let new = c.add_view.new.views.items in
    let can = c.if-not-branch.false in
    let answered = c.in_ok-add_view.ensures.answered in
    record {
      kept = λ v is. c.in_ok-add_view.ensures.kept v (c.loop-place.invariant.kept v is);
      only = c.in_ok-add_view.ensures.only;
      answered = below_next (λ p. IsAnswered r new c.args.txn p) c.loop-place.place
          (λ p lt. answered_more r c.loop-place.views.items new c.args.txn p c.in_ok-add_view.ensures.kept
          (c.loop-place.invariant.answered p lt)) (answered can);
    }

pub returns-clause-answered : goal.returns-clause-answered
returns-clause-answered c p lt = c.loop-place.invariant.answered p (let a = c.loop-place-test.false in
    let b = ap length c.ops_of-ops.ensures.are in
    omega (arith, a, b, lt))
