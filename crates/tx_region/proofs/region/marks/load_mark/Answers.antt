use Rattle.tx_core.proofs.seats.Beginnings.{extends_all}
use Rattle.tx_region.proofs.region.marks.load_mark.Goals as goal

pub returns-clause-seen : goal.returns-clause-seen
returns-clause-seen g c = let seat =
    c.args.seat.now in record { run = c.number.ensures.run.0; extends = extends_all seat.seat seat.events }
