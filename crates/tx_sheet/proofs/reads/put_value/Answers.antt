use Rattle.std.proofs.Common.{Bor, option_map, refl}
use Rattle.tx_types.specs.declared.value.Value.{Value}
use Rattle.tx_sheet.proofs.MoreReads.{told, tells_more}
use Rattle.tx_sheet.proofs.reads.put_value.Goals as goal

pub returns-then-knows : goal.returns-then-knows
returns-then-knows c =
    let found = option_map (λ (v : Bor Value). v.now) c.args.found in
    let there = rw (c.as_slice.ensures.value, c.as_str.ensures.value) at (c.knows.ensures.0 c.if-knows.true) in
    told c.args.place found c.args.reads.now.items _ c.in_ok-text.ensures there

pub returns : goal.returns
returns c =
    let found = option_map (λ (v : Bor Value). v.now) c.args.found in
    rw c.in_ok-push.ensures.items (tells_more c.args.place found c.args.reads.now.items
    (record { key = c.args.place; found = c.in_ok-text.text }) refl c.in_ok-text.ensures)
