use Rattle.tx_types.proofs.Parts.{two_parts}
use Rattle.tx_types.proofs.text.short_of_two.Goals as goal

pub returns-clause-bytes : goal.returns-clause-bytes
returns-clause-bytes c = two_parts 22 c.args.front.now c.args.back.now
    c.copy_from_slice.new.self c.copy_from_slice-2.new.self c.copy_from_slice.ensures.after
    c.copy_from_slice-2.ensures.after
