use Rattle.tx_core.proofs.seats.Beginnings.{begins_all, extends_begins}
use Rattle.tx_run.proofs.sessions.learn_last.Goals as goal

pub returns-in-Some-clause-grew : goal.returns-in-Some-clause-grew
returns-in-Some-clause-grew g c =
    let old = c.args.seat.now in
    extends_begins old.seat old.events c.learn.new.self.events c.learn.ensures.seen.extends

pub returns-in_default-clause-grew : goal.returns-in_default-clause-grew
returns-in_default-clause-grew g c = begins_all c.args.seat.now.events
