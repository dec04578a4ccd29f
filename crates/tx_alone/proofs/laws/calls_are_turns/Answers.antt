use Rattle.tx_engine.proofs.Turns.{did_send}
use Rattle.tx_alone.proofs.laws.calls_are_turns.Goals as goal

pub returns : goal.returns
returns c = λ bounds name what delivery old new from at to said set sent.
    did_send bounds what delivery old new from at to set said sent
