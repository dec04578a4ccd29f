use Rattle.tx_script.proofs.Checks.{it_came, it_is_run}
use Rattle.tx_script.proofs.script.close.Goals as goal

pub returns-clause-came : goal.returns-clause-came
returns-clause-came g c = it_came g.J.JournalId.bounds c.args.engine c.take_trace-trace.new.self c.requires.kept
    c.take_trace-trace.ensures.after c.settle-told.ensures.settled g.J.JournalId.seats c.settle-told.result
    c.settle-told.ensures.told c.show.ensures c.requires.seats

pub returns-clause-run : goal.returns-clause-run
returns-clause-run g c = it_is_run g.J.JournalId.bounds c.args.engine c.take_trace-trace.new.self c.requires.kept
    c.take_trace-trace.ensures.after c.settle-told.ensures.settled g.J.JournalId.seats c.settle-told.result
    c.settle-told.ensures.told c.show.ensures c.requires.seats
