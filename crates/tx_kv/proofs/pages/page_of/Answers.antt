use Rattle.tx_core.specs.Histories.{last}
use Rattle.tx_reader.proofs.Observers.{sees_itself, sees_more}
use Rattle.tx_kv.proofs.Views.{if_stops_less}
use Rattle.tx_kv.proofs.pages.page_of.Goals as goal

pub returns-in_err-end-in-Some-clause-seat : goal.returns-in_err-end-in-Some-clause-seat
returns-in_err-end-in-Some-clause-seat g c = sees_itself c.args.reader.now.seat

pub returns-in_err-end-in-None-clause-seat : goal.returns-in_err-end-in-None-clause-seat
returns-in_err-end-in-None-clause-seat g c = sees_itself c.args.reader.now.seat

pub returns-clause-seat : goal.returns-clause-seat
returns-clause-seat g c =
    sees_more c.args.reader.now.seat c.first_rows.new.reader.seat c.whole-2.new.reader.seat c.first_rows.ensures.seat
    c.whole-2.ensures.seat

pub returns-clause-err : goal.returns-clause-err
returns-clause-err g c =
    if_stops_less c.whole-2.new.reader.seat.events (last c.args.reader.now.seat.events)
    (last c.first_rows.new.reader.seat.events) c.first_rows.new.reader.at c.args.reader.now.at
    c.first_rows.ensures.seat.drawn c.first_rows.ensures.at c.whole-2.result c.whole-2.ensures.err
