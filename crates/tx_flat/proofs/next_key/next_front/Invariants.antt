use Rattle.tx_flat.proofs.Positions.{AreBehind}
use Rattle.tx_flat.proofs.next_key.next_front.Given as goal

abbrev pub invariant-steps : goal.invariant-steps
invariant-steps l = AreBehind l.key l.writes.entries l.rest
