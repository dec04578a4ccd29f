use Rattle.tx_core.specs.Histories.{last}
use Rattle.tx_kv.proofs.Views.{found_of, if_seen_now, names_of, stops_of}
use Rattle.tx_kv.proofs.many.found_at.Goals as goal

pub returns-clause-finds : goal.returns-clause-finds
returns-clause-finds g c =
    found_of c.get-answered.result g.J.JournalId.bounds c.get-answered.new.self.seat.events c.args.reader.now.at
    c.args.key.now c.found_in.result c.found_in.ensures.finds c.get-answered.ensures.finds

pub returns-clause-sees : goal.returns-clause-sees
returns-clause-sees g c =
    let bounds = g.J.JournalId.bounds in
    let events = c.get-answered.new.self.seat.events in
    let at = c.args.reader.now.at in
    if_seen_now bounds events c.know_run.ensures at c.args.key.now c.found_in.result
    (found_of c.get-answered.result bounds events at c.args.key.now c.found_in.result c.found_in.ensures.finds
    c.get-answered.ensures.finds)

pub returns-clause-err : goal.returns-clause-err
returns-clause-err g c =
    stops_of c.get-answered.result c.get-answered.new.self.seat.events (last c.args.reader.now.seat.events)
    c.args.reader.now.at c.args.key.now c.found_in.result c.found_in.ensures.err c.get-answered.ensures.may
    (c.get-answered.ensures.lossless c.requires.lossless)

pub returns-clause-names : goal.returns-clause-names
returns-clause-names g c =
    names_of c.get-answered.result c.get-answered.new.self.seat.events (last c.args.reader.now.seat.events)
    c.args.reader.now.at c.args.key.now c.found_in.result c.found_in.ensures.err c.get-answered.ensures.may
    (c.get-answered.ensures.lossless c.requires.lossless)
