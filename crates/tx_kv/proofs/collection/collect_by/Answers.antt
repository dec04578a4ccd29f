use Rattle.std.proofs.Common.{rules}
use Rattle.tx_resolve.specs.Collection.{gc_walk}
use Rattle.tx_reader.proofs.Observers.{sees_begins, sees_more, sees_seen, sent_sees}
use Rattle.tx_kv.proofs.Collections.{collected_all, refused_so}
use Rattle.tx_kv.proofs.collection.collect_by.Goals as goal

-- why it is refused
pub returns-in_err-dropped-clause-err : goal.returns-in_err-dropped-clause-err
returns-in_err-dropped-clause-err g c =
    let so = refused_so g.J.JournalId.bounds g.S.Sender.fits g.S.Sender.sends g.S.Sender.keys_between c.requires.way
    c.new-safe.result c.last-now.new.self c.gc.new.seat c.args.sender.now c.gc.new.sender c.gc.result c.gc.ensures in
    search rules

-- it goes as far as it may by what its seat knew as it looked
pub returns-clause-far : goal.returns-clause-far
returns-clause-far g c =
    let old = c.args.seat.now in
    let mid = c.last-now.new.self in
    let saw = sees_seen g.J.JournalId.bounds old mid c.last-now.ensures.same.0 c.last-now.ensures.same.1
    c.last-now.ensures.seen in
    let sent = sent_sees g.S.Sender.sends g.J.JournalId.bounds (gc_walk g.J.JournalId.bounds c.new-safe.result)
    mid c.gc.new.seat c.args.sender.now c.gc.new.sender c.gc.result c.gc.ensures in
    record {
      looked = mid.events;
      after = sees_begins old mid saw;
      before = sees_begins mid c.gc.new.seat sent;
      is = search rules;
    }

-- what it came to
pub returns-clause-done : goal.returns-clause-done
returns-clause-done g c =
    let so = collected_all g.J.JournalId.bounds g.S.Sender.fits g.S.Sender.sends g.S.Sender.keys_between c.requires.way
    c.new-safe.result c.last-now.new.self c.gc.new.seat c.args.sender.now c.gc.new.sender c.gc.result c.gc.ensures in
    search rules

pub returns-in_err-dropped-clause-seat : goal.returns-in_err-dropped-clause-seat
returns-in_err-dropped-clause-seat g c =
    sees_more c.args.seat.now c.last-now.new.self c.gc.new.seat
    (sees_seen g.J.JournalId.bounds c.args.seat.now c.last-now.new.self c.last-now.ensures.same.0
    c.last-now.ensures.same.1 c.last-now.ensures.seen)
    (sent_sees g.S.Sender.sends g.J.JournalId.bounds (gc_walk g.J.JournalId.bounds c.new-safe.result)
    c.last-now.new.self c.gc.new.seat c.args.sender.now c.gc.new.sender c.gc.result c.gc.ensures)

pub returns-clause-seat : goal.returns-clause-seat
returns-clause-seat g c =
    sees_more c.args.seat.now c.last-now.new.self c.gc.new.seat
    (sees_seen g.J.JournalId.bounds c.args.seat.now c.last-now.new.self c.last-now.ensures.same.0
    c.last-now.ensures.same.1 c.last-now.ensures.seen)
    (sent_sees g.S.Sender.sends g.J.JournalId.bounds (gc_walk g.J.JournalId.bounds c.new-safe.result)
    c.last-now.new.self c.gc.new.seat c.args.sender.now c.gc.new.sender c.gc.result c.gc.ensures)
