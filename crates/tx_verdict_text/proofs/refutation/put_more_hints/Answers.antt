use Rattle.std.proofs.Common.{◌≡◌, ◌++◌, ◌∷◌, [], take, map, get_or, ap, ◌∙◌}
use Rattle.serde_json.specs.View.{items_of}
use Rattle.serde_json.specs.Written.{compact_text}
use Rattle.tx_text.specs.Texts.{members_text}
use Rattle.tx_text.proofs.Lists.{entry_more}
use Rattle.tx_verdict.specs.declared.refutation.Hint.{Hint}
use Rattle.tx_verdict.specs.Refutations.{no_order}
use Rattle.tx_verdict_text.specs.Words.{hint_data}
use Rattle.tx_verdict_text.proofs.refutation.put_more_hints.Goals as goal

pub loop-hint-preserved : goal.loop-hint-preserved
loop-hint-preserved c =
    let old = c.args.out.now.items in
    let xs = c.args.hints.now in
    let at = c.loop-hint.hint-index in
    let value = hint_data c.args.history.now in
    let none : Hint = record { lemma = 0; order = no_order } in
    let before = old ++ members_text (items_of (map value (take at xs))) in
    let pushed : c.push.new.self.items ≡ before ++ 44 ∷ [] =
    c.in_ok-push.ensures.items ∙ ap (λ t. t ++ 44 ∷ []) c.loop-hint.invariant in
    c.in_ok-put_hint.ensures ∙ ap (λ t. t ++ compact_text (value (get_or xs at none))) pushed
    ∙ entry_more value old xs at none c.loop-hint-test.true
