-- One order more.
use Rattle.std.proofs.Common.{◌≡◌, ◌⊎◌, get_or, Contains, arith}
use Rattle.std.proofs.lemmas.Grind.{common_steps}
use Rattle.tx_views.proofs.ReadViews.{below_next}
use Rattle.tx_verdict.specs.declared.refutation.WriteOrder.{WriteOrder}
use Rattle.tx_verdict.specs.Refutations.{opposite, no_order}
use Rattle.tx_verdict.proofs.Small.{by_place}
use Rattle.tx_verdict.proofs.lemma.is_unit.Goals as goal

pub loop-i-preserved : goal.loop-i-preserved
loop-i-preserved c =
    below_next (λ q. (get_or c.args.clause.now q no_order ≡ c.args.left)
    ⊎ Contains c.args.known.now (opposite (get_or c.args.clause.now q no_order))) c.loop-i.i
    c.loop-i.invariant (c.is_other.ensures c.if-not-is_other.false)

pub returns : goal.returns
returns c _ = by_place (λ (p : WriteOrder). (p ≡ c.args.left) ⊎ Contains c.args.known.now (opposite p))
    c.args.clause.now no_order (λ i lt. c.loop-i.invariant i (grind (arith, common_steps, c.loop-i-test.false, lt)))
