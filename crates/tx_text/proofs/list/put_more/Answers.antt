use Rattle.std.proofs.Common.{rules, ◌≡◌, ◌++◌, ◌∷◌, [], take, map, get_or, ◌∙◌}
use Rattle.serde_json.specs.View.{items_of}
use Rattle.serde_json.specs.Written.{compact_text}
use Rattle.tx_text.specs.Texts.{members_text}
use Rattle.tx_text.proofs.Lists.{entry_more}
use Rattle.tx_text.proofs.list.put_more.Goals as goal

pub loop-entry-preserved : goal.loop-entry-preserved
loop-entry-preserved g c =
    let old = c.args.out.now.items in
    let xs = c.args.list.now in
    let at = c.loop-entry.entry-index in
    let value = g.E.Entries.value in
    let all : c.put.new.out.items ≡ ((old ++ members_text (items_of (map value (take at xs)))) ++ 44 ∷ [])
    ++ compact_text (value (get_or xs at c.entry-item.result)) = search rules in
    all ∙ entry_more value old xs at c.entry-item.result c.loop-entry-test.true
