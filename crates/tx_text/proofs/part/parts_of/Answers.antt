use Rattle.std.proofs.Common.{◌≡◌, ◌<◌, length, Some, rules, arith, sym, ◌∙◌}
use Rattle.serde_json.specs.Find.{as_array}
use Rattle.serde_json.specs.View.{view, items_view}
use Rattle.tx_text.proofs.Leaves.{counted}
use Rattle.tx_text.proofs.part.parts_of.Goals as goal

pub returns-then-len-gt-MAX_PARTS-clause-none : goal.returns-then-len-gt-MAX_PARTS-clause-none
returns-then-len-gt-MAX_PARTS-clause-none c =
    let found : as_array (view c.args.value.now) ≡ Some (items_view c.in_ok-items.items.now.items) = search rules in
    let more : 7 < length c.in_ok-items.items.now.items = search (rules, arith) in
    λ items is. counted items c.in_ok-items.items.now.items 7 (sym found ∙ is) more
