use Rattle.std.proofs.Common.{◌∙◌}
use Rattle.tx_transaction.proofs.Parts.{IsAbsent, found_at, absent_at, find_few, find_behind}
use Rattle.tx_transaction.proofs.key_entries.KeyEntries.find.Goals as goal

pub returns-in-Some : goal.returns-in-Some
returns-in-Some c =
    let few = c.self.inside.few.items in
    let there = found_at c.as_slice.result.now few
    c.as_bytes.result.now c.args.key.now c.in-Some.i c.as_slice.ensures.value c.as_bytes.ensures.value
    c.in-Some.ensures.found in
    find_few few c.self.inside.more c.args.self.now c.args.key.now c.in-Some.i c.index.result.now there
    c.index.ensures c.self.view_is

pub returns : goal.returns
returns c =
    let few = c.self.inside.few.items in
    let none : IsAbsent few c.args.key.now =
    absent_at c.as_slice.result.now few
    c.as_bytes.result.now c.args.key.now c.as_slice.ensures.value c.as_bytes.ensures.value
    c.in_default.ensures.absent in
    c.find.ensures ∙ find_behind few c.self.inside.more c.args.self.now c.args.key.now none c.self.view_is
