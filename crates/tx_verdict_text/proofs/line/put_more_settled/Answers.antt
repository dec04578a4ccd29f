use Rattle.std.proofs.Common.{◌≡◌, ◌++◌, ◌∷◌, [], take, map, ap, ◌∙◌}
use Rattle.serde_json.specs.View.{items_of}
use Rattle.serde_json.specs.Written.{compact_text}
use Rattle.tx_text.specs.Texts.{members_text}
use Rattle.tx_text.proofs.Lists.{entry_more}
use Rattle.tx_verdict_text.specs.Words.{settled_data}
use Rattle.tx_verdict_text.proofs.line.put_more_settled.Goals as goal

pub loop-fact-preserved : goal.loop-fact-preserved
loop-fact-preserved c =
    let old = c.args.out.now.items in
    let xs = c.args.facts.now in
    let at = c.loop-fact.fact-index in
    let value = settled_data c.args.history.now in
    let fact = c.fact-item.result in
    let before = old ++ members_text (items_of (map value (take at xs))) in
    let pushed : c.push.new.self.items ≡ before ++ 44 ∷ [] =
    c.in_ok-push.ensures.items ∙ ap (λ t. t ++ 44 ∷ []) c.loop-fact.invariant in
    c.in_ok-put_settled.ensures ∙ ap (λ t. t ++ compact_text (value fact)) pushed
    ∙ ap (λ q. (before ++ 44 ∷ []) ++ compact_text (value q)) c.fact-item.is
    ∙ entry_more value old xs at fact c.loop-fact-test.true
