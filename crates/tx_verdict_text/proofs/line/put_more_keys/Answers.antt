use Rattle.std.proofs.Common.{◌≡◌, ◌++◌, ◌∷◌, [], take, map, get_or, ap, ◌∙◌}
use Rattle.serde_json.specs.View.{items_of}
use Rattle.serde_json.specs.Written.{compact_text}
use Rattle.tx_text.specs.Texts.{members_text}
use Rattle.tx_text.proofs.Lists.{entry_more}
use Rattle.tx_verdict_text.specs.Words.{key_data}
use Rattle.tx_verdict_text.proofs.line.put_more_keys.Goals as goal

pub loop-key-preserved : goal.loop-key-preserved
loop-key-preserved c =
    let old = c.args.out.now.items in
    let xs = c.args.keys.now in
    let at = c.loop-key.key-index in
    let value = key_data c.args.history.now in
    let before = old ++ members_text (items_of (map value (take at xs))) in
    let pushed : c.push.new.self.items ≡ before ++ 44 ∷ [] =
    c.in_ok-push.ensures.items ∙ ap (λ t. t ++ 44 ∷ []) c.loop-key.invariant in
    c.in_ok-put_key.ensures ∙ ap (λ t. t ++ compact_text (value (get_or xs at 0))) pushed
    ∙ entry_more value old xs at 0 c.loop-key-test.true
