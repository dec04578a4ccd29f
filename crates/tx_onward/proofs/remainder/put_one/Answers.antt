use Rattle.std.proofs.Common.{◌∙◌, ◌<◌, ◌^◌, length, ap, length-append, arith}
use Rattle.std.proofs.lemmas.Grind.{common_steps}
use Rattle.tx_onward.specs.Left.{without}
use Rattle.tx_onward.proofs.Lefts.{few_left}
use Rattle.tx_onward.proofs.remainder.put_one.Goals as goal

pub overflow_cast-upto : goal.overflow_cast-upto
overflow_cast-upto c =
    let r = c.args.recording.now in
    let few = few_left r c.args.is_told c.args.txn c.requires.recording c.requires.within in
    let added = c.in_ok-put_ops.ensures in
    let long = ap length added ∙ length-append c.args.left.now.items (without c.args.is_told c.ops_of.result.now) in
    let same = ap (λ os. length (without c.args.is_told os)) c.ops_of.ensures.are in
    let fits : length c.put_ops.new.left.items < 2 ^ 32 =
    omega (arith, few.0, few.1, long, same, c.requires.room, c.requires.recording.short) in
    grind (arith, common_steps, fits, c.len-upto.ensures)
