use Rattle.std.proofs.Common.{sym, subst, IsTrue}
use Rattle.tx_types.specs.declared.key.Key.{Key}
use Rattle.tx_types.specs.Keys.{key_lt, key_le}
use Rattle.tx_reader.specs.Readers.{AreTogether}
use Rattle.tx_reader.proofs.Parts.{part_le, part_above, together}
use Rattle.tx_reader.proofs.read.end_of_part.Goals as goal

pub returns-clause-together : goal.returns-clause-together
returns-clause-together c =
    subst (λ (k : Key). AreTogether c.args.bounds.now c.args.from.now k) (sym c.part_end.ensures)
    (together c.args.bounds.now c.args.from.now c.args.to.now)

pub returns-clause-upto : goal.returns-clause-upto
returns-clause-upto c =
    subst (λ (k : Key). IsTrue (key_le k c.args.to.now)) (sym c.part_end.ensures)
    (part_le c.args.bounds.now c.args.from.now c.args.to.now)

pub returns-clause-some : goal.returns-clause-some
returns-clause-some c =
    λ lt. subst (λ (k : Key). IsTrue (key_lt c.args.from.now k)) (sym c.part_end.ensures)
    (part_above c.args.bounds.now c.args.from.now c.args.to.now lt)
