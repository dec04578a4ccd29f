use Rattle.std.proofs.Common.{subst, ◌∙◌}
use Rattle.tx_types.specs.Fronts.{AreBytes}
use Rattle.tx_types.proofs.Fronts.{front_group}
use Rattle.tx_types.proofs.key.Key.front.Goals as goal

pub returns-clause-value : goal.returns-clause-value
returns-clause-value c =
    c.from_be_bytes.ensures ∙ front_group c.args.self.now c.first_eight.result c.first_eight.ensures

pub returns-clause-bytes : goal.returns-clause-bytes
returns-clause-bytes c = subst AreBytes c.as_bytes.ensures.value c.know_bytes.ensures
