use Rattle.tx_region.proofs.TakenRequests.{extends_itself}
use Rattle.tx_region.proofs.region.marks.lies_above.Goals as goal

pub returns-in-None-clause-seen : goal.returns-in-None-clause-seen
returns-in-None-clause-seen g c =
    record { run = c.number.ensures.run.0; extends = extends_itself c.args.seat.now.seat c.args.seat.now.events }
