-- One transaction more.
use Rattle.std.proofs.Common.{◌≡◌, ℕ, ◌<◌, length, arith}
use Rattle.std.proofs.lemmas.Grind.{common_steps}
use Rattle.tx_recording.specs.declared.recording.RecordedOutcome.TheVariants.{Ok as Committed}
use Rattle.tx_recording.specs.Recordings.{ops_of, transaction_at, txns_of}
use Rattle.tx_views.specs.Views.{IsAnswered}
use Rattle.tx_views.proofs.ReadViews.{below_next, answered_more, none_at, not_ok}
use Rattle.tx_views.proofs.view.views.Goals as goal

pub loop-txn-preserved-then-not-is_ok : goal.loop-txn-preserved-then-not-is_ok
loop-txn-preserved-then-not-is_ok c =
    let r = c.args.recording.now in
    let vs = c.loop-txn.views.items in
    let P : ℕ → Type 0 = λ t. (p : ℕ) → (transaction_at r t).outcome ≡ Committed → p < length (ops_of r t)
    → IsAnswered r vs t p in
    let lt : c.loop-txn.txn < txns_of r = grind (arith, common_steps, c.len-txn-end.ensures, c.loop-txn-test.true) in
    let more = below_next P c.loop-txn.txn (λ t lt p ok in_ops. c.loop-txn.invariant.all t p lt ok in_ops)
    (not_ok r vs c.loop-txn.txn c.index.result.now lt c.index.ensures
    (λ is. (let a = c.is_ok.ensures.1 is in let b = c.if-not-is_ok.true in (cc)))) in
    record {
      only = c.loop-txn.invariant.only;
      all = λ t p lt ok in_ops. more t lt p ok in_ops;
    }

pub loop-txn-preserved : goal.loop-txn-preserved
loop-txn-preserved c =
    let r = c.args.recording.now in
    let vs = c.add_views.new.views.items in
    let old = c.loop-txn.views.items in
    let n = c.loop-txn.txn in
    let P : ℕ → Type 0 = λ t. (p : ℕ) → (transaction_at r t).outcome ≡ Committed → p < length (ops_of r t)
    → IsAnswered r vs t p in
    let Q : Type 0 = (p : ℕ) → p < length (ops_of r n) → IsAnswered r vs n p in
    let last = none_at c.in_ok-place.field-0 Q c.in_default.is c.in_ok-place.ensures.answered in
    let more = below_next P n
    (λ t lt p ok in_ops. answered_more r old vs t p c.in_ok-place.ensures.kept
    (c.loop-txn.invariant.all t p lt ok in_ops))
    (λ p ok in_ops. last p in_ops) in
    record {
      only = c.in_ok-place.ensures.only;
      all = λ t p lt ok in_ops. more t lt p ok in_ops;
    }

pub returns : goal.returns
returns c = record {
  only = c.loop-txn.invariant.only;
  all = λ t p lt ok in_ops. c.loop-txn.invariant.all t p
      (grind (arith, common_steps, c.len-txn-end.ensures, c.loop-txn-test.false, lt)) ok in_ops;
}
