use Rattle.std.proofs.Common.{ap, ◌∙◌}
use Rattle.tx_transfer.specs.Balances.{balance_of}
use Rattle.tx_transfer.proofs.Digits.{decimal_says}
use Rattle.tx_transfer.proofs.balance.value_of.Goals as goal

pub returns-in-Ok-clause-says : goal.returns-in-Ok-clause-says
returns-in-Ok-clause-says c =
    ap balance_of (c.in-Ok.ensures.ok ∙ c.as_bytes.ensures.value ∙ c.format.ensures.text)
    ∙ decimal_says c.args.balance c.requires
