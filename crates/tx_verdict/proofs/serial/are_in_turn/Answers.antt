-- They run one after the other.
use Rattle.tx_verdict.proofs.InTurn.{in_turn}
use Rattle.tx_verdict.proofs.serial.are_in_turn.Goals as goal

pub returns : goal.returns
returns c is = in_turn c.as_slice.result.now c.args.live.now c.args.starts.now c.args.commits.now
    (c.commit_at_once.ensures is)
