use Rattle.std.proofs.Common.{◌<◌, ◌≤◌, length, refl, arith}
use Rattle.std.proofs.lemmas.Option.{slice_get_read}
use Rattle.tx_sheet.proofs.MoreReads.{found_on, all_keys}
use Rattle.tx_sheet.proofs.reads.put_reads.Goals as goal

pub keys-preserved : goal.keys-preserved
keys-preserved c =
    let keys = c.args.keys.now in
    let i = c.keys.place in
    let key = c.index-keys-place.result in
    let within : i < length keys = omega (arith, c.keys-test.true) in
    let at = slice_get_read keys (length keys) i key refl within c.index-keys-place.is in
    found_on keys c.args.taking.now i key at c.args.reads.now.items c.keys.reads.items c.put_found.new.reads.items
    _ c.found_by.ensures c.keys.invariant c.in_ok-put_found.ensures

pub returns : goal.returns
returns c =
    let keys = c.args.keys.now in
    let over : length keys ≤ c.keys.place = omega (arith, c.keys-test.false) in
    all_keys keys c.args.taking.now c.args.reads.now.items c.keys.reads.items c.keys.place over c.keys.invariant
