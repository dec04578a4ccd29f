use Rattle.tx_alone.proofs.ResolveTurns.{met_resolves, resolve_turn, unmet_turn}
use Rattle.tx_alone.proofs.laws.resolves_are_turns.Goals as goal

pub returns : goal.returns
returns c = record { turns = resolve_turn; unmet = unmet_turn; over = met_resolves }
