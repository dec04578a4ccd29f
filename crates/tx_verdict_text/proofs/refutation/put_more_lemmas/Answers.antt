use Rattle.std.proofs.Common.{◌≡◌, ◌++◌, ◌∷◌, [], take, map, ap, ◌∙◌}
use Rattle.serde_json.specs.View.{items_of}
use Rattle.serde_json.specs.Written.{compact_text}
use Rattle.tx_text.specs.Texts.{members_text}
use Rattle.tx_text.proofs.Lists.{entry_more}
use Rattle.tx_verdict_text.specs.Words.{lemma_data}
use Rattle.tx_verdict_text.proofs.refutation.put_more_lemmas.Goals as goal

pub loop-lemma-preserved : goal.loop-lemma-preserved
loop-lemma-preserved c =
    let old = c.args.out.now.items in
    let xs = c.args.lemmas.now in
    let at = c.loop-lemma.lemma-index in
    let value = lemma_data c.args.history.now in
    let lemma = c.lemma-item.result in
    let before = old ++ members_text (items_of (map value (take at xs))) in
    let pushed : c.push.new.self.items ≡ before ++ 44 ∷ [] =
    c.in_ok-push.ensures.items ∙ ap (λ t. t ++ 44 ∷ []) c.loop-lemma.invariant in
    c.in_ok-put_lemma.ensures ∙ ap (λ t. t ++ compact_text (value lemma)) pushed
    ∙ ap (λ q. (before ++ 44 ∷ []) ++ compact_text (value q)) c.lemma-item.is
    ∙ entry_more value old xs at lemma c.loop-lemma-test.true
