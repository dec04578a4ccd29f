-- What is left of one more clause; and then the round closes.
use Rattle.std.proofs.Common.{◌+◌, List, drop, get_or, arith, subst}
use Rattle.std.proofs.lemmas.Grind.{common_steps}
use Rattle.std.proofs.lemmas.List.{drop_more}
use Rattle.std.proofs.Math.ListN.{drop_of_length-le}
use Rattle.tx_verdict.specs.declared.refutation.WriteOrder.{WriteOrder}
use Rattle.tx_verdict.specs.Refutations.{ClosesBy, IsUnitOf, no_order}
use Rattle.tx_verdict.proofs.Direct.{hint_on, hints_end}
use Rattle.tx_verdict.proofs.lemma.closes_by.Goals as goal

pub loop-i-preserved : goal.loop-i-preserved
loop-i-preserved c =
    let r = c.args.case.now.recording.now in
    let hints = c.args.hints.now in
    let i = c.loop-i.i in
    let h = get_or hints i record { lemma = 0; order = no_order } in
    let known = c.loop-i.known.items in
    let P : List WriteOrder → Type 0 = λ q. IsUnitOf c.args.lemmas.now q h in
    hint_on (ClosesBy r c.args.case.now.question c.args.lemmas.now c.args.known.now.items hints c.args.steps.now) r
    c.args.case.now.question c.args.lemmas.now c.args.steps.now known c.push.new.self.items (drop i hints)
    (drop (i + 1) hints) h (drop_more hints i record { lemma = 0; order = no_order } c.loop-i-test.true)
    c.in_ok-push.ensures.items
    (subst P c.as_slice.ensures.value (c.is_left.ensures c.if-not-is_left.false)) c.loop-i.invariant

pub returns : goal.returns
returns c is =
    c.loop-i.invariant (hints_end c.args.case.now.recording.now c.args.case.now.question c.args.lemmas.now
    c.args.steps.now
    c.loop-i.known.items c.as_slice-2.result.now (drop c.loop-i.i c.args.hints.now)
    (drop_of_length-le c.args.hints.now (grind (arith, common_steps, c.loop-i-test.false)))
    c.as_slice-2.ensures.value (c.in_ok-closes.ensures is))
