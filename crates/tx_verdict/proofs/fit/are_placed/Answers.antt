-- One transaction more.
use Rattle.std.proofs.Common.{ℕ, arith, sym, ◌∙◌, subst, IsTrue}
use Rattle.std.proofs.lemmas.Grind.{common_steps}
use Rattle.std.proofs.lemmas.Bool.{false≢true}
use Rattle.tx_recording.specs.Explanations.{IsPut, PutsIn}
use Rattle.tx_views.proofs.ReadViews.{below_next}
use Rattle.tx_verdict.specs.Versions.{IsPlaced, live_of}
use Rattle.tx_verdict.proofs.fit.are_placed.Goals as goal

pub loop-txn-preserved-then-not-is_live : goal.loop-txn-preserved-then-not-is_live
loop-txn-preserved-then-not-is_live c t k w lt live put =
    let r = c.args.recording.now in
    let v = c.args.versions.now in
    let P : ℕ → Type 0 = λ q. (k w : ℕ) → IsTrue (live_of v q) → IsPut r q k w → IsPlaced v q k in
    below_next P c.loop-txn.txn (λ q low k w is also. c.loop-txn.invariant q k w low is also)
    (λ k w is also. absurd (false≢true (sym c.if-not-is_live.true ∙ (c.is_live.ensures ∙ is)))) t lt k w live put

pub loop-txn-preserved : goal.loop-txn-preserved
loop-txn-preserved c t k w lt live put =
    let r = c.args.recording.now in
    let v = c.args.versions.now in
    let P : ℕ → Type 0 = λ q. (k w : ℕ) → IsTrue (live_of v q) → IsPut r q k w → IsPlaced v q k in
    let last = c.are_ops_placed.ensures c.if-not-are_ops_placed.false in
    below_next P c.loop-txn.txn (λ q low k w is also. c.loop-txn.invariant q k w low is also)
    (λ k w is also. last k w (subst (λ os. PutsIn os k w) (sym c.ops_of.ensures.are) also)) t lt k w live put

pub returns : goal.returns
returns c _ t k w lt live put =
    c.loop-txn.invariant t k w (grind (arith, common_steps, c.loop-txn-test.false, c.len-txn-end.ensures, lt)) live put
