use Rattle.std.proofs.Common.{◌≡◌, ◌+◌, length, rules}
use Rattle.tx_update.specs.Ranges.{row_with}
use Rattle.tx_kv.specs.Counters.{counted}
use Rattle.tx_kv.proofs.Sizes.{size_more}
use Rattle.tx_kv.proofs.size.Size.with_row.Goals as goal

pub returns : goal.returns
returns c =
    let old = c.args.self in
    let keys : c.saturating_add.result ≡ counted (old.keys + 1) = search rules in
    let bytes : c.saturating_add-2.result
    ≡ counted (counted (old.bytes + length c.args.key.now) + length c.args.value.now) = search rules in
    λ rows is. size_more old (record { keys = c.saturating_add.result; bytes = c.saturating_add-2.result }) rows
    (row_with c.args.key.now c.args.value.now) is keys bytes
