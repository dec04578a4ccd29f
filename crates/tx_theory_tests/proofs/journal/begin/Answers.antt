use Rattle.std.proofs.Common.{sym, subst}
use Rattle.tx_core.specs.declared.event.Event.TheVariants.{Began}
use Rattle.tx_core.specs.Recording.{MayRecord}
use Rattle.tx_journal.proofs.Calls.{may_begin_there}
use Rattle.tx_theory_tests.proofs.journal.begin.Goals as goal

pub record_begin-requires : goal.record_begin-requires
record_begin-requires g c =
    let bounds = g.J.JournalId.bounds in
    let start = c.in-Ok.start in
    let new = c.draw.new.self in
    let seat = c.args.seat in
    subst (λ n. MayRecord bounds n new.events (Began start))
    (sym c.draw.ensures.seat)
    (may_begin_there bounds seat.seat seat.events new.events 1 start c.in-Ok.ensures.drawn)
