use Rattle.std.proofs.Common.{subst, sym}
use Rattle.tx_kv.specs.Clients.{TellsEnd}
use Rattle.tx_kv.proofs.UpdateResults.{tells_end}
use Rattle.tx_kv.proofs.updated.by_ended.Goals as goal

pub returns-clause-tells : goal.returns-clause-tells
returns-clause-tells g c =
    subst (λ r. TellsEnd c.args.ended r) (sym c.by_outcome.ensures) (tells_end c.args.ended c.requires.value)
