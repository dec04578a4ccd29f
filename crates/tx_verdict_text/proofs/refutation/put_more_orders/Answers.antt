use Rattle.std.proofs.Common.{◌≡◌, ◌++◌, ◌∷◌, [], take, map, get_or, ap, ◌∙◌}
use Rattle.serde_json.specs.View.{items_of}
use Rattle.serde_json.specs.Written.{compact_text}
use Rattle.tx_text.specs.Texts.{members_text}
use Rattle.tx_text.proofs.Lists.{entry_more}
use Rattle.tx_verdict.specs.Refutations.{no_order}
use Rattle.tx_verdict_text.specs.Words.{order_data}
use Rattle.tx_verdict_text.proofs.refutation.put_more_orders.Goals as goal

pub loop-order-preserved : goal.loop-order-preserved
loop-order-preserved c =
    let old = c.args.out.now.items in
    let xs = c.args.orders.now in
    let at = c.loop-order.order-index in
    let value = order_data c.args.history.now in
    let none = no_order in
    let before = old ++ members_text (items_of (map value (take at xs))) in
    let pushed : c.push.new.self.items ≡ before ++ 44 ∷ [] =
    c.in_ok-push.ensures.items ∙ ap (λ t. t ++ 44 ∷ []) c.loop-order.invariant in
    c.in_ok-put_order.ensures ∙ ap (λ t. t ++ compact_text (value (get_or xs at none))) pushed
    ∙ entry_more value old xs at none c.loop-order-test.true
