use Rattle.std.proofs.Common.{subst}
use Rattle.tx_core.proofs.seats.Beginnings.{begins_more, begins_either}
use Rattle.tx_journal.specs.Known.{HasSeen}
use Rattle.tx_core.specs.Histories.{Begins}
use Rattle.tx_journal.proofs.Calls.{seen_begins, seen_more}
use Rattle.tx_journal.proofs.told.one_history.Goals as goal

pub returns-clause-seen : goal.returns-clause-seen
returns-clause-seen g c =
    let bounds = g.J.JournalId.bounds in
    let old = c.args.by.now in
    let mid = c.learn.new.self in
    let new = c.learn-2.new.self in
    seen_more bounds old.seat old.events mid.events new.events c.learn.ensures.seen
    (subst (λ n. HasSeen bounds n mid.events new.events) c.learn.ensures.same.0 c.learn-2.ensures.seen)

-- both begin what the seat then knows
pub returns-clause-either : goal.returns-clause-either
returns-clause-either g c =
    let one = c.args.one.now in
    let other = c.args.other.now in
    let mid = c.learn.new.self in
    let new = c.learn-2.new.self in
    let first = subst (λ h. Begins h mid.events) c.copy-first.ensures.copy c.learn.ensures.told in
    let second = subst (λ h. Begins h new.events) c.copy-second.ensures.copy c.learn-2.ensures.told in
    begins_either one other new.events
    (begins_more one mid.events new.events first
    (seen_begins g.J.JournalId.bounds mid.seat mid.events new.events c.learn-2.ensures.seen)) second
