use Rattle.std.proofs.Common.{◌≤◌, sym, subst, arith}
use Rattle.std.proofs.lemmas.Map.Keys.{ge_from_not_lt}
use Rattle.tx_core.specs.Recording.{MayRecord}
use Rattle.tx_core.proofs.seats.ReadMarks.{raised_on}
use Rattle.tx_core.proofs.seats.Recording.{may_record_on}
use Rattle.tx_journal.specs.Known.{HasRecorded}
use Rattle.tx_journal.proofs.Calls.{recorded_more}
use Rattle.tx_region.proofs.region.events.record_read.Goals as goal

pub raise_read_as-requires : goal.raise_read_as-requires
raise_read_as-requires g c =
    let bounds = g.J.JournalId.bounds in
    let e = g.E.StepEvent.event in
    let old = c.args.seat.now in
    let mid = c.max_ts.new.self in
    let seen = c.max_ts.ensures.seen in
    record {
      quiet = c.requires.quiet;
      right = subst (λ i. MayRecord bounds i mid.events e)
          (sym c.max_ts.ensures.same.0)
          (may_record_on bounds old.seat old.events mid.events e seen.extends c.requires.right);
      read = raised_on old.seat old.events mid.events seen.extends e c.args.at
          (c.requires.right mid.events seen.run seen.extends).1 c.requires.read;
    }

pub record_as-requires : goal.record_as-requires
record_as-requires g c =
    let bounds = g.J.JournalId.bounds in
    let e = g.E.StepEvent.event in
    let old = c.args.seat.now in
    let mid = c.max_ts.new.self in
    let seen = c.max_ts.ensures.seen in
    let raised = raised_on old.seat old.events mid.events seen.extends e c.args.at
    (c.requires.right mid.events seen.run seen.extends).1 c.requires.read in
    let low : c.args.at ≤ c.max_ts.result = ge_from_not_lt c.max_ts.result c.args.at (sym c.if-lt.ensures) in
    record {
      quiet = c.requires.quiet;
      right = subst (λ i. MayRecord bounds i mid.events e)
          (sym c.max_ts.ensures.same.0)
          (may_record_on bounds old.seat old.events mid.events e seen.extends c.requires.right);
      unread = omega (arith, raised, low, c.max_ts.ensures.read);
    }

pub returns-then-lt-clause-added : goal.returns-then-lt-clause-added
returns-then-lt-clause-added g c =
    let bounds = g.J.JournalId.bounds in
    let e = g.E.StepEvent.event in
    let old = c.args.seat.now in
    let mid = c.max_ts.new.self in
    let new = c.raise_read_as.new.self.events in
    recorded_more bounds old.seat old.events mid.events new e
    c.max_ts.ensures.seen (subst (λ i. HasRecorded bounds i mid.events e new) c.max_ts.ensures.same.0
    c.raise_read_as.ensures.added)

pub returns-else-lt-clause-added : goal.returns-else-lt-clause-added
returns-else-lt-clause-added g c =
    let bounds = g.J.JournalId.bounds in
    let e = g.E.StepEvent.event in
    let old = c.args.seat.now in
    let mid = c.max_ts.new.self in
    let new = c.record_as.new.self.events in
    recorded_more bounds old.seat old.events mid.events new e
    c.max_ts.ensures.seen (subst (λ i. HasRecorded bounds i mid.events e new) c.max_ts.ensures.same.0
    c.record_as.ensures.added)
