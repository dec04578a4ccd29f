use Rattle.std.proofs.Common.{◌≡◌, ◌++◌, ◌∷◌, [], take, map, get_or, ap, ◌∙◌}
use Rattle.serde_json.specs.View.{items_of}
use Rattle.serde_json.specs.Written.{compact_text}
use Rattle.tx_text.specs.Texts.{members_text}
use Rattle.tx_text.proofs.Lists.{entry_more}
use Rattle.tx_verdict_text.specs.Words.{step_data}
use Rattle.tx_verdict_text.proofs.Lines.{no_step}
use Rattle.tx_verdict_text.proofs.line.put_more_steps.Goals as goal

pub loop-step-preserved : goal.loop-step-preserved
loop-step-preserved c =
    let old = c.args.out.now.items in
    let xs = c.args.steps.now in
    let at = c.loop-step.step-index in
    let value = step_data c.args.history.now in
    let before = old ++ members_text (items_of (map value (take at xs))) in
    let pushed : c.push.new.self.items ≡ before ++ 44 ∷ [] =
    c.in_ok-push.ensures.items ∙ ap (λ t. t ++ 44 ∷ []) c.loop-step.invariant in
    c.in_ok-put_step.ensures ∙ ap (λ t. t ++ compact_text (value (get_or xs at no_step))) pushed
    ∙ entry_more value old xs at no_step c.loop-step-test.true
