use Rattle.std.proofs.Common.{◌≡◌, ◌++◌, map, take}
use Rattle.serde_json.specs.View.{items_of}
use Rattle.tx_text.specs.Texts.{members_text}
use Rattle.tx_verdict_text.specs.Words.{order_data}
use Rattle.tx_verdict_text.proofs.refutation.put_more_orders.Given as goal

abbrev pub invariant-loop-order : goal.invariant-loop-order
invariant-loop-order l =
    l.out.items ≡ l.fn.out.items ++ members_text (items_of (map (order_data l.history) (take l.order-index l.orders)))
