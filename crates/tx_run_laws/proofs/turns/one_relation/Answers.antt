use Rattle.tx_run_laws.proofs.LineTurns.{made_by_way, way_makes}
use Rattle.tx_run_laws.proofs.turns.one_relation.Goals as goal

pub returns : goal.returns
returns c = record { makes = made_by_way; back = way_makes }
