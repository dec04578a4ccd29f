use Rattle.std.proofs.Common.{◌++◌, get_or, ap, ◌∙◌}
use Rattle.tx_diagram.specs.Pictures.{lemma_picture}
use Rattle.tx_diagram.proofs.Pieces.{piece_more}
use Rattle.tx_diagram.proofs.refutation.put_all_lemmas.Goals as goal

pub loop-lemma-preserved : goal.loop-lemma-preserved
loop-lemma-preserved c =
    let f = lemma_picture c.args.history.now in
    let xs = c.args.lemmas.now in
    let at = c.loop-lemma.lemma-index in
    let lemma = c.lemma-item.result in
    c.in_ok-put_lemma.ensures ∙ ap (λ q. c.loop-lemma.out.items ++ f q) c.lemma-item.is
    ∙ ap (λ t. t ++ f (get_or xs at lemma)) c.loop-lemma.invariant
    ∙ piece_more f c.args.out.now.items xs at lemma c.loop-lemma-test.true
