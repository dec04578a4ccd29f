-- One more order of the clause; and then the round closes.
use Rattle.std.proofs.Common.{◌≡◌, ◌+◌, List, [], ◌∷◌, ◌++◌, drop, get_or, arith, ap, ◌∙◌, subst}
use Rattle.std.proofs.lemmas.Grind.{common_steps}
use Rattle.std.proofs.lemmas.List.{drop_more}
use Rattle.std.proofs.Math.ListN.{drop_of_length-le}
use Rattle.tx_verdict.specs.declared.refutation.WriteOrder.{WriteOrder}
use Rattle.tx_verdict.specs.Refutations.{IsClauseBy, IsLemmaBy, no_order}
use Rattle.tx_verdict.proofs.Direct.{clause_on, clause_ends}
use Rattle.tx_verdict.proofs.lemma.is_lemma.Goals as goal

pub loop-i-init : goal.loop-i-init
loop-i-init c rest =
    let P : List WriteOrder → Type 0 = λ q. IsClauseBy c.args.case.now.recording.now c.args.case.now.question
    c.args.before.now q
    c.as_slice-clause.result.now c.args.lemma.now.hints.items c.args.lemma.now.round.items in
    let Q : List WriteOrder → Type 0 = λ q. IsClauseBy c.args.case.now.recording.now c.args.case.now.question
    c.args.before.now
    c.args.known.now q c.args.lemma.now.hints.items c.args.lemma.now.round.items in
    let same : c.extend_from_slice.new.self.items ≡ c.args.known.now =
    c.in_ok-extend_from_slice.ensures.items ∙ ap (λ q. q ++ c.args.known.now) c.new-all.ensures.items in
    subst Q c.as_slice-clause.ensures.value (subst P same rest)

pub loop-i-preserved : goal.loop-i-preserved
loop-i-preserved c =
    let r = c.args.case.now.recording.now in
    let clause = c.as_slice-clause.result.now in
    let i = c.loop-i.i in
    let o = get_or clause i no_order in
    clause_on (IsLemmaBy r c.args.case.now.question c.args.known.now c.args.before.now c.args.lemma.now) r
    c.args.case.now.question
    c.args.before.now c.args.lemma.now.hints.items c.args.lemma.now.round.items c.loop-i.all.items
    c.push.new.self.items (drop i clause) (drop (i + 1) clause) o (drop_more clause i no_order c.loop-i-test.true)
    (c.in_ok-push.ensures.items ∙ ap (λ q. c.loop-i.all.items ++ q ∷ []) c.opposite_of.ensures)
    (c.is_order.ensures c.if-not-is_order.false) c.loop-i.invariant

pub returns : goal.returns
returns c is =
    let clause = c.as_slice-clause.result.now in
    c.loop-i.invariant (clause_ends c.args.case.now.recording.now c.args.case.now.question c.args.before.now
    c.args.lemma.now.hints.items c.as_slice.result.now c.args.lemma.now.round.items c.as_slice-2.result.now
    c.loop-i.all.items (drop c.loop-i.i clause)
    (drop_of_length-le clause (grind (arith, common_steps, c.loop-i-test.false)))
    c.as_slice.ensures.value c.as_slice-2.ensures.value (c.in_ok-closes.ensures is))
