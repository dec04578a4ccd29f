-- One more is settled; and then the last round closes.
use Rattle.std.proofs.Common.{◌≡◌, ◌+◌, [], ◌∷◌, drop, sym, ap, ◌∙◌}
use Rattle.std.proofs.lemmas.List.{drop_more}
use Rattle.tx_verdict.specs.declared.refutation.Settled.{Settled}
use Rattle.tx_verdict.specs.Refutations.{IsRefutationBy}
use Rattle.tx_verdict.proofs.Direct.{goes_on}
use Rattle.tx_verdict.proofs.refutation.are_settled.Goals as goal

pub loop-i-preserved : goal.loop-i-preserved
loop-i-preserved c =
    let r = c.args.case.now.recording.now in
    let facts = c.args.facts.now in
    let all = c.args.refutation.now in
    let i = c.loop-i.i in
    let f = c.index-facts-i.result in
    let known = c.loop-i.known.items in
    let new = c.is_settled.new.known.items in
    let (is, settled) = c.in_ok-is_settled.ensures c.if-not-branch.false in
    let split : drop i facts ≡ f ∷ drop (i + 1) facts = drop_more facts i f c.loop-i-test.true
    ∙ ap (λ (q : Settled). q ∷ drop (i + 1) facts) (sym c.index-facts-i.is) in
    goes_on (IsRefutationBy r c.args.case.now.question [] facts all) r c.args.case.now.question all known new
    (drop i facts)
    (drop (i + 1) facts) f split is settled c.loop-i.invariant
