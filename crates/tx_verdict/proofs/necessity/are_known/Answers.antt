-- One transaction more.
use Rattle.std.proofs.Common.{◌<◌, length, arith, sym, ◌∙◌, IsTrue, false, inl, inr}
use Rattle.std.proofs.lemmas.Grind.{common_steps}
use Rattle.std.proofs.lemmas.Bool.{false≢true, cases_lt}
use Rattle.std.proofs.lemmas.List.{get_or_past}
use Rattle.tx_views.proofs.ReadViews.{below_next}
use Rattle.tx_verdict.specs.Versions.{live_of}
use Rattle.tx_verdict.specs.Reasons.{HasCommitted}
use Rattle.tx_verdict.proofs.Small.{live_is}
use Rattle.tx_verdict.proofs.necessity.are_known.Goals as goal

pub loop-txn-preserved-then-not-index : goal.loop-txn-preserved-then-not-index
loop-txn-preserved-then-not-index c =
    let v = c.args.versions.now in
    let lt : c.loop-txn.txn < length v.live.items =
    grind (arith, common_steps, c.loop-txn-test.true, c.len-txn-end.ensures) in
    below_next (λ t. IsTrue (live_of v t) → HasCommitted c.args.case.now.recording.now t) c.loop-txn.txn
    c.loop-txn.invariant
    (λ is. absurd (false≢true
    (sym (live_is v c.loop-txn.txn c.index.result.now false lt c.index.ensures c.if-not-index.true) ∙ is)))

pub loop-txn-preserved : goal.loop-txn-preserved
loop-txn-preserved c =
    let v = c.args.versions.now in
    below_next (λ t. IsTrue (live_of v t) → HasCommitted c.args.case.now.recording.now t) c.loop-txn.txn
    c.loop-txn.invariant
    (λ _. c.is_known.ensures c.if-not-is_known.false)

pub returns : goal.returns
returns c _ t is =
    let v = c.args.versions.now in
    elim (cases_lt t (length v.live.items)) [
      | inl lt ↦ c.loop-txn.invariant t
          (grind (arith, common_steps, c.loop-txn-test.false, c.len-txn-end.ensures, lt)) is
      | inr past ↦ absurd (false≢true (sym (get_or_past v.live.items t false past) ∙ is))
    ]
