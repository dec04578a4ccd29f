use Rattle.tx_run.proofs.OwnSeats.{if_ok, from_dealt}
use Rattle.tx_run.proofs.play.open.Goals as goal

pub returns : goal.returns
returns g c = if_ok c.open.result (λ r seats. from_dealt _ r.1.items seats) c.open.ensures.seats
