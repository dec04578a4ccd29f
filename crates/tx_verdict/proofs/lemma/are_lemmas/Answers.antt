-- One more lemma; and then the last round closes.
use Rattle.std.proofs.Common.{◌≡◌, ◌+◌, ◌≤◌, List, [], ◌∷◌, ◌++◌, length, take, drop, arith, sym, ap, ◌∙◌, subst}
use Rattle.std.proofs.lemmas.Grind.{common_steps}
use Rattle.std.proofs.lemmas.List.{drop_more, take_more, take_all}
use Rattle.std.proofs.Math.ListN.{drop_of_length-le}
use Rattle.tx_verdict.specs.declared.refutation.WriteOrder.{WriteOrder}
use Rattle.tx_verdict.specs.declared.refutation.Lemma.{Lemma}
use Rattle.tx_verdict.specs.Refutations.{AreLemmasBy, ClosesBy}
use Rattle.tx_verdict.proofs.Direct.{lemma_on, lemmas_end}
use Rattle.tx_verdict.proofs.lemma.are_lemmas.Goals as goal

pub loop-i-preserved : goal.loop-i-preserved
loop-i-preserved c =
    let r = c.args.case.now.recording.now in
    let lemmas = c.args.lemmas.now in
    let i = c.loop-i.i in
    let l = c.index-lemmas-i.result in
    let split : drop i lemmas ≡ l ∷ drop (i + 1) lemmas = drop_more lemmas i l c.loop-i-test.true
    ∙ ap (λ (q : Lemma). q ∷ drop (i + 1) lemmas) (sym c.index-lemmas-i.is) in
    let new : take (i + 1) lemmas ≡ take i lemmas ++ l ∷ [] = take_more lemmas i l c.loop-i-test.true
    ∙ ap (λ (q : Lemma). take i lemmas ++ q ∷ []) (sym c.index-lemmas-i.is) in
    lemma_on (AreLemmasBy r c.args.case.now.question c.args.known.now [] lemmas c.args.hints.now c.args.last.now) r
    c.args.case.now.question c.args.known.now c.args.hints.now c.args.last.now (take i lemmas) (take (i + 1) lemmas)
    (drop i lemmas) (drop (i + 1) lemmas) l split new (c.in_ok-is_lemma.ensures c.if-not-branch.false)
    c.loop-i.invariant

pub returns : goal.returns
returns c is =
    let r = c.args.case.now.recording.now in
    let lemmas = c.args.lemmas.now in
    let i = c.loop-i.i in
    let past : length lemmas ≤ i = grind (arith, common_steps, c.loop-i-test.false) in
    let same : c.extend_from_slice.new.self.items ≡ c.args.known.now =
    c.in_ok-extend_from_slice.ensures.items ∙ ap (λ q. q ++ c.args.known.now) c.new-all.ensures.items in
    let P : List WriteOrder → Type 0 = λ q. ClosesBy r c.args.case.now.question lemmas q c.args.hints.now
    c.args.last.now in
    c.loop-i.invariant (lemmas_end r c.args.case.now.question c.args.known.now c.args.hints.now c.args.last.now
    (take i lemmas)
    lemmas (drop i lemmas) (drop_of_length-le lemmas past) (sym (take_all i lemmas past))
    (subst P same (c.in_ok-closes.ensures is)))
