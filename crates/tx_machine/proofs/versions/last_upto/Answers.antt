use Rattle.std.proofs.Common.{arith}
use Rattle.std.proofs.lemmas.Grind.{common_steps}
use Rattle.tx_machine.proofs.versions.last_upto.Goals as goal

pub returns-clause-nearest : goal.returns-clause-nearest
returns-clause-nearest g c = let h = (c.range.ensures.in_range tt).4 _ _ c.in_ok-at.ensures.steps in
    grind (arith, common_steps, h)
