use Rattle.std.proofs.Common.{◌++◌, get_or, ap, ◌∙◌}
use Rattle.tx_diagram.specs.Pictures.{settled_picture}
use Rattle.tx_diagram.proofs.Pieces.{piece_more}
use Rattle.tx_diagram.proofs.refutation.put_all_settled.Goals as goal

pub loop-fact-preserved : goal.loop-fact-preserved
loop-fact-preserved c =
    let f = settled_picture c.args.history.now in
    let xs = c.args.facts.now in
    let at = c.loop-fact.fact-index in
    let fact = c.fact-item.result in
    c.in_ok-put_settled.ensures ∙ ap (λ q. c.loop-fact.out.items ++ f q) c.fact-item.is
    ∙ ap (λ t. t ++ f (get_or xs at fact)) c.loop-fact.invariant
    ∙ piece_more f c.args.out.now.items xs at fact c.loop-fact-test.true
