use Rattle.std.proofs.Common.{◌≡◌, ◌≤◌, ◌+◌, length, Some, IfSome, option_map, sym, subst, arith}
use Rattle.std.proofs.KnownBytes.{Keeps-refl}
use Rattle.tx_types.specs.declared.fault.Cause.TheVariants as cause
use Rattle.tx_types.specs.declared.limits.TheConstants.{MAX_LINES}
use Rattle.tx_text.specs.declared.end.Broken.{Broken}
use Rattle.tx_engine.specs.Slots.{Held, engine_state, own, Goes}
use Rattle.tx_network.specs.Networks.{IsTraced}
use Rattle.tx_script.specs.declared.line.Turned.TheVariants as turned
use Rattle.tx_script.specs.Loops.{FoundTurned, FitsFound, NotesFault, BetweenLines}
use Rattle.tx_script.proofs.Scripts.{counts_first, kept, ready, still, kept_after, traced_on, if_err_is, if_any_err}
use Rattle.tx_script.proofs.Lines.{AllBreak, on_first, on_found, on_next, break_between, end_well, end_broken, fault_ends, fault_breaks, fault_breaks_last, reply_breaks}
use Rattle.tx_script.proofs.NumberedLines.{numbers_first, numbers_found, numbers_next, numbers_end}
use Rattle.tx_script.proofs.Stops.{stop_noted}
use Rattle.tx_script.proofs.script.play_lines.Goals as goal

pub returns-in_err-replies-clause-kept : goal.returns-in_err-replies-clause-kept
returns-in_err-replies-clause-kept g c =
    let counts = counts_first g.J.JournalId.bounds c.args.engine.now c.requires.opening c.requires.slots
    c.requires.ready in
    kept g.J.JournalId.bounds 0 c.args.engine.now counts

pub returns-in_err-replies-clause-breaks : goal.returns-in_err-replies-clause-breaks
returns-in_err-replies-clause-breaks g c =
    let on = on_first g.J.JournalId.bounds c.args.first c.args.line.now.items (g.R.Read.remaining c.args.reader.now)
    (g.W.Write.contents c.args.writer.now) c.args.engine.now c.requires.opening c.requires.slots in
    let f : (why : Broken) → length c.args.engine.now.network.newest ≤ own c.args.engine.now
    → AllBreak g.J.JournalId.bounds c.args.first c.args.line.now.items (g.R.Read.remaining c.args.reader.now)
    (g.W.Write.contents c.args.writer.now) why c.args.engine.now.network.newest
    (g.W.Write.contents c.args.writer.now) = λ why le.
    (break_between g.J.JournalId.bounds c.args.first c.args.line.now.items (g.R.Read.remaining c.args.reader.now)
    (g.W.Write.contents c.args.writer.now) (Some c.args.first) c.args.line.now.items
    (g.R.Read.remaining c.args.reader.now) (g.W.Write.contents c.args.writer.now) 0 c.args.engine.now on why le) in
    if_any_err _ f

pub lines-init : goal.lines-init
lines-init g c =
    let counts = counts_first g.J.JournalId.bounds c.args.engine.now c.requires.opening c.requires.slots
    c.requires.ready in (
      counts,
      omega arith,
      on_first g.J.JournalId.bounds c.args.first c.args.line.now.items
          (g.R.Read.remaining c.args.reader.now) (g.W.Write.contents c.args.writer.now) c.args.engine.now
          c.requires.opening c.requires.slots,
      λ le first. first,
      λ first. numbers_first g.J.JournalId.bounds c.args.first c.args.line.now.items
          (g.R.Read.remaining c.args.reader.now) (g.W.Write.contents c.args.writer.now) c.args.engine.now
          (option_map (λ v. v.items) c.args.numbers.now) c.requires.opening c.requires.slots c.requires.none,
    )

pub play_next-requires : goal.play_next-requires
play_next-requires g c = record {
  ready = ready g.J.JournalId.bounds c.lines.number c.lines.engine c.lines.invariant.0
      c.lines.invariant.1;
}

pub returns-in_err-play_next-clause-kept : goal.returns-in_err-play_next-clause-kept
returns-in_err-play_next-clause-kept g c =
    subst (BetweenLines g.J.JournalId.bounds) (sym c.in_err-play_next.ensures.same)
    (kept g.J.JournalId.bounds c.lines.number c.lines.engine c.lines.invariant.0)

pub returns-in_err-play_next-clause-breaks : goal.returns-in_err-play_next-clause-breaks
returns-in_err-play_next-clause-breaks g c = let f : (why : Broken)
    → length c.play_next.new.engine.network.newest ≤ own c.play_next.new.engine
    → AllBreak g.J.JournalId.bounds c.args.first c.args.line.now.items (g.R.Read.remaining c.args.reader.now)
    (g.W.Write.contents c.args.writer.now) why c.play_next.new.engine.network.newest
    (g.W.Write.contents c.lines.writer) = λ why le. (subst (λ (e : Held). length e.network.newest ≤ own e
    → AllBreak g.J.JournalId.bounds c.args.first c.args.line.now.items (g.R.Read.remaining c.args.reader.now)
    (g.W.Write.contents c.args.writer.now) why e.network.newest (g.W.Write.contents c.lines.writer))
    (sym c.in_err-play_next.ensures.same) (λ l. break_between g.J.JournalId.bounds c.args.first c.args.line.now.items
    (g.R.Read.remaining c.args.reader.now) (g.W.Write.contents c.args.writer.now) c.lines.found c.lines.line.items
    (g.R.Read.remaining c.lines.reader) (g.W.Write.contents c.lines.writer) c.lines.number c.lines.engine
    c.lines.invariant.2 why l) le) in
    if_any_err _ f

pub returns-in_err-finish-in-End-clause-kept : goal.returns-in_err-finish-in-End-clause-kept
returns-in_err-finish-in-End-clause-kept g c =
    let nx = c.in_ok-play_next.ensures.turned in
    let goes : Goes g.J.JournalId.bounds c.lines.engine c.play_next.new.engine
    (FoundTurned g.J.JournalId.bounds (c.lines.number
    + 1) nx.found nx.text turned.End c.lines.engine c.play_next.new.engine) = rw c.in-End.is at nx.goes in
    kept_after g.J.JournalId.bounds c.lines.number c.lines.engine c.play_next.new.engine c.lines.invariant.0 _ goes
    c.lines.invariant.1

pub returns-in_err-finish-in-End-clause-breaks : goal.returns-in_err-finish-in-End-clause-breaks
returns-in_err-finish-in-End-clause-breaks g c =
    let nx = c.in_ok-play_next.ensures.turned in
    let on = on_found g.J.JournalId.bounds c.args.first c.args.line.now.items (g.R.Read.remaining c.args.reader.now)
    (g.W.Write.contents c.args.writer.now) c.lines.found c.lines.line.items (g.R.Read.remaining c.lines.reader)
    (g.W.Write.contents c.lines.writer) c.lines.number c.lines.engine nx.found nx.text
    (g.R.Read.remaining c.play_next.new.reader) c.lines.invariant.2 nx.ahead in
    let goes : Goes g.J.JournalId.bounds c.lines.engine c.play_next.new.engine
    (FoundTurned g.J.JournalId.bounds (c.lines.number
    + 1) nx.found nx.text turned.End c.lines.engine c.play_next.new.engine) = rw c.in-End.is at nx.goes in
    let fits : FitsFound nx.found turned.End = rw c.in-End.is at nx.fits in
    let f : (why : Broken) → length c.play_next.new.engine.network.newest ≤ own c.play_next.new.engine
    → AllBreak g.J.JournalId.bounds c.args.first c.args.line.now.items (g.R.Read.remaining c.args.reader.now)
    (g.W.Write.contents c.args.writer.now) why c.play_next.new.engine.network.newest
    (g.W.Write.contents c.finish.new.writer) =
    λ why le. (end_broken g.J.JournalId.bounds c.args.first c.args.line.now.items
    (g.R.Read.remaining c.args.reader.now) (g.W.Write.contents c.args.writer.now) nx.found nx.text
    (g.R.Read.remaining c.play_next.new.reader) (g.W.Write.contents c.lines.writer) c.lines.number c.lines.engine
    on c.play_next.new.engine c.lines.invariant.0 goes fits
    (g.W.Write.contents c.finish.new.writer) c.finish.ensures.kept le why) in
    if_any_err _ f

pub returns-in-End-clause-kept : goal.returns-in-End-clause-kept
returns-in-End-clause-kept g c =
    let nx = c.in_ok-play_next.ensures.turned in
    let goes : Goes g.J.JournalId.bounds c.lines.engine c.play_next.new.engine
    (FoundTurned g.J.JournalId.bounds (c.lines.number
    + 1) nx.found nx.text turned.End c.lines.engine c.play_next.new.engine) = rw c.in-End.is at nx.goes in
    kept_after g.J.JournalId.bounds c.lines.number c.lines.engine c.play_next.new.engine c.lines.invariant.0 _ goes
    c.lines.invariant.1

pub returns-in-End-clause-ends : goal.returns-in-End-clause-ends
returns-in-End-clause-ends g c =
    let nx = c.in_ok-play_next.ensures.turned in
    let on = on_found g.J.JournalId.bounds c.args.first c.args.line.now.items (g.R.Read.remaining c.args.reader.now)
    (g.W.Write.contents c.args.writer.now) c.lines.found c.lines.line.items (g.R.Read.remaining c.lines.reader)
    (g.W.Write.contents c.lines.writer) c.lines.number c.lines.engine nx.found nx.text
    (g.R.Read.remaining c.play_next.new.reader) c.lines.invariant.2 nx.ahead in
    let goes : Goes g.J.JournalId.bounds c.lines.engine c.play_next.new.engine
    (FoundTurned g.J.JournalId.bounds (c.lines.number
    + 1) nx.found nx.text turned.End c.lines.engine c.play_next.new.engine) = rw c.in-End.is at nx.goes in
    let fits : FitsFound nx.found turned.End = rw c.in-End.is at nx.fits in
    λ le. end_well g.J.JournalId.bounds c.args.first c.args.line.now.items (g.R.Read.remaining c.args.reader.now)
    (g.W.Write.contents c.args.writer.now) nx.found nx.text (g.R.Read.remaining c.play_next.new.reader)
    (g.W.Write.contents c.lines.writer) c.lines.number c.lines.engine on c.play_next.new.engine
    c.lines.invariant.0 goes fits (g.W.Write.contents c.finish.new.writer) c.finish.ensures.kept le

pub returns-in-End-clause-numbered : goal.returns-in-End-clause-numbered
returns-in-End-clause-numbered g c =
    let nx = c.in_ok-play_next.ensures.turned in
    let goes : Goes g.J.JournalId.bounds c.lines.engine c.play_next.new.engine
    (FoundTurned g.J.JournalId.bounds (c.lines.number
    + 1) nx.found nx.text turned.End c.lines.engine c.play_next.new.engine) = rw c.in-End.is at nx.goes in
    let fits : FitsFound nx.found turned.End = rw c.in-End.is at nx.fits in
    λ well le run first. numbers_end g.J.JournalId.bounds c.args.first c.args.line.now.items
    (g.R.Read.remaining c.args.reader.now) (g.W.Write.contents c.args.writer.now) nx.found nx.text
    (g.R.Read.remaining c.play_next.new.reader) (g.W.Write.contents c.lines.writer) c.lines.number c.lines.engine
    c.play_next.new.engine c.lines.invariant.0 goes fits (g.W.Write.contents c.finish.new.writer)
    c.finish.ensures.kept
    (option_map (λ v. v.items) c.lines.numbers) (numbers_found g.J.JournalId.bounds c.args.first
    c.args.line.now.items (g.R.Read.remaining c.args.reader.now) (g.W.Write.contents c.args.writer.now) c.lines.found
    c.lines.line.items (g.R.Read.remaining c.lines.reader) (g.W.Write.contents c.lines.writer) c.lines.number
    c.lines.engine nx.found nx.text (g.R.Read.remaining c.play_next.new.reader) (option_map (λ v. v.items)
    c.lines.numbers) nx.ahead (c.lines.invariant.4 first)) le run

pub returns-in-Stops-clause-numbered : goal.returns-in-Stops-clause-numbered
returns-in-Stops-clause-numbered g c = λ well. absurd (cc (well))

pub returns-in_err-write_reply-in-Goes-clause-kept : goal.returns-in_err-write_reply-in-Goes-clause-kept
returns-in_err-write_reply-in-Goes-clause-kept g c =
    let nx = c.in_ok-play_next.ensures.turned in
    let goes : Goes g.J.JournalId.bounds c.lines.engine c.play_next.new.engine
    (FoundTurned g.J.JournalId.bounds (c.lines.number
    + 1) nx.found nx.text (turned.Goes c.in-Goes.reply) c.lines.engine c.play_next.new.engine) = rw c.in-Goes.is at
    nx.goes in
    kept_after g.J.JournalId.bounds c.lines.number c.lines.engine c.play_next.new.engine c.lines.invariant.0 _ goes
    c.lines.invariant.1

pub returns-in_err-write_reply-in-Goes-clause-breaks : goal.returns-in_err-write_reply-in-Goes-clause-breaks
returns-in_err-write_reply-in-Goes-clause-breaks g c =
    let nx = c.in_ok-play_next.ensures.turned in
    let on = on_found g.J.JournalId.bounds c.args.first c.args.line.now.items (g.R.Read.remaining c.args.reader.now)
    (g.W.Write.contents c.args.writer.now) c.lines.found c.lines.line.items (g.R.Read.remaining c.lines.reader)
    (g.W.Write.contents c.lines.writer) c.lines.number c.lines.engine nx.found nx.text
    (g.R.Read.remaining c.play_next.new.reader) c.lines.invariant.2 nx.ahead in
    let goes : Goes g.J.JournalId.bounds c.lines.engine c.play_next.new.engine
    (FoundTurned g.J.JournalId.bounds (c.lines.number
    + 1) nx.found nx.text (turned.Goes c.in-Goes.reply) c.lines.engine c.play_next.new.engine) = rw c.in-Goes.is at
    nx.goes in
    let fits : FitsFound nx.found (turned.Goes c.in-Goes.reply) =
    rw c.in-Goes.is at nx.fits in
    let e = c.in_err-write_reply-in-Goes.field-0.0 in
    if_err_is _ _ e c.from_residual-in_err-write_reply-in-Goes.ensures.1
    (λ le. reply_breaks g.J.JournalId.bounds c.args.first c.args.line.now.items
    (g.R.Read.remaining c.args.reader.now) (g.W.Write.contents c.args.writer.now) nx.found nx.text
    (g.R.Read.remaining c.play_next.new.reader) (g.W.Write.contents c.lines.writer) c.lines.number c.lines.engine
    on c.play_next.new.engine c.lines.invariant.0 c.in-Goes.reply goes fits e
    (g.W.Write.contents c.write_reply.new.writer) c.in_err-write_reply-in-Goes.ensures.part le)

pub returns-in_err-write_fault-in-Stops-clause-kept : goal.returns-in_err-write_fault-in-Stops-clause-kept
returns-in_err-write_fault-in-Stops-clause-kept g c =
    let nx = c.in_ok-play_next.ensures.turned in
    let goes : Goes g.J.JournalId.bounds c.lines.engine c.play_next.new.engine
    (FoundTurned g.J.JournalId.bounds (c.lines.number
    + 1) nx.found nx.text (turned.Stops c.in-Stops.cause) c.lines.engine c.play_next.new.engine) = rw c.in-Stops.is at
    nx.goes in
    kept_after g.J.JournalId.bounds c.lines.number c.lines.engine c.play_next.new.engine c.lines.invariant.0 _ goes
    c.lines.invariant.1

pub returns-in_err-write_fault-in-Stops-clause-breaks : goal.returns-in_err-write_fault-in-Stops-clause-breaks
returns-in_err-write_fault-in-Stops-clause-breaks g c =
    let nx = c.in_ok-play_next.ensures.turned in
    let on = on_found g.J.JournalId.bounds c.args.first c.args.line.now.items (g.R.Read.remaining c.args.reader.now)
    (g.W.Write.contents c.args.writer.now) c.lines.found c.lines.line.items (g.R.Read.remaining c.lines.reader)
    (g.W.Write.contents c.lines.writer) c.lines.number c.lines.engine nx.found nx.text
    (g.R.Read.remaining c.play_next.new.reader) c.lines.invariant.2 nx.ahead in
    let goes : Goes g.J.JournalId.bounds c.lines.engine c.play_next.new.engine
    (FoundTurned g.J.JournalId.bounds (c.lines.number
    + 1) nx.found nx.text (turned.Stops c.in-Stops.cause) c.lines.engine c.play_next.new.engine) = rw c.in-Stops.is at
    nx.goes in
    let fits : FitsFound nx.found (turned.Stops c.in-Stops.cause) =
    rw c.in-Stops.is at nx.fits in
    let e = c.in_err-write_fault-in-Stops.field-0.0 in
    if_err_is _ _ e c.from_residual-in_err-write_fault-in-Stops.ensures.1
    (λ le. fault_breaks g.J.JournalId.bounds c.args.first c.args.line.now.items
    (g.R.Read.remaining c.args.reader.now) (g.W.Write.contents c.args.writer.now) nx.found nx.text
    (g.R.Read.remaining c.play_next.new.reader) (g.W.Write.contents c.lines.writer) c.lines.number c.lines.engine
    on c.play_next.new.engine c.lines.invariant.0 c.in-Stops.cause goes fits le e
    (g.W.Write.contents c.write_fault.new.writer) c.in_err-write_fault-in-Stops.ensures.part)

pub returns-in_err-finish-in-Stops-clause-kept : goal.returns-in_err-finish-in-Stops-clause-kept
returns-in_err-finish-in-Stops-clause-kept g c =
    let nx = c.in_ok-play_next.ensures.turned in
    let goes : Goes g.J.JournalId.bounds c.lines.engine c.play_next.new.engine
    (FoundTurned g.J.JournalId.bounds (c.lines.number
    + 1) nx.found nx.text (turned.Stops c.in-Stops.cause) c.lines.engine c.play_next.new.engine) = rw c.in-Stops.is at
    nx.goes in
    kept_after g.J.JournalId.bounds c.lines.number c.lines.engine c.play_next.new.engine c.lines.invariant.0 _ goes
    c.lines.invariant.1

pub returns-in_err-finish-in-Stops-clause-breaks : goal.returns-in_err-finish-in-Stops-clause-breaks
returns-in_err-finish-in-Stops-clause-breaks g c =
    let nx = c.in_ok-play_next.ensures.turned in
    let on = on_found g.J.JournalId.bounds c.args.first c.args.line.now.items (g.R.Read.remaining c.args.reader.now)
    (g.W.Write.contents c.args.writer.now) c.lines.found c.lines.line.items (g.R.Read.remaining c.lines.reader)
    (g.W.Write.contents c.lines.writer) c.lines.number c.lines.engine nx.found nx.text
    (g.R.Read.remaining c.play_next.new.reader) c.lines.invariant.2 nx.ahead in
    let goes : Goes g.J.JournalId.bounds c.lines.engine c.play_next.new.engine
    (FoundTurned g.J.JournalId.bounds (c.lines.number
    + 1) nx.found nx.text (turned.Stops c.in-Stops.cause) c.lines.engine c.play_next.new.engine) = rw c.in-Stops.is at
    nx.goes in
    let fits : FitsFound nx.found (turned.Stops c.in-Stops.cause) =
    rw c.in-Stops.is at nx.fits in
    let f : (why : Broken) → length c.play_next.new.engine.network.newest ≤ own c.play_next.new.engine
    → AllBreak g.J.JournalId.bounds c.args.first c.args.line.now.items (g.R.Read.remaining c.args.reader.now)
    (g.W.Write.contents c.args.writer.now) why c.play_next.new.engine.network.newest
    (g.W.Write.contents c.finish-in-Stops.new.writer) =
    λ why le. (fault_breaks_last g.J.JournalId.bounds c.args.first c.args.line.now.items
    (g.R.Read.remaining c.args.reader.now) (g.W.Write.contents c.args.writer.now) nx.found nx.text
    (g.R.Read.remaining c.play_next.new.reader) (g.W.Write.contents c.lines.writer) c.lines.number c.lines.engine
    on c.play_next.new.engine c.lines.invariant.0 c.in-Stops.cause goes fits le why
    (g.W.Write.contents c.write_fault.new.writer) (g.W.Write.contents c.finish-in-Stops.new.writer)
    c.in_ok-write_fault-in-Stops.ensures.all c.finish-in-Stops.ensures.kept) in
    if_any_err _ f

pub returns-in-Stops-clause-kept : goal.returns-in-Stops-clause-kept
returns-in-Stops-clause-kept g c =
    let nx = c.in_ok-play_next.ensures.turned in
    let goes : Goes g.J.JournalId.bounds c.lines.engine c.play_next.new.engine
    (FoundTurned g.J.JournalId.bounds (c.lines.number
    + 1) nx.found nx.text (turned.Stops c.in-Stops.cause) c.lines.engine c.play_next.new.engine) = rw c.in-Stops.is at
    nx.goes in
    kept_after g.J.JournalId.bounds c.lines.number c.lines.engine c.play_next.new.engine c.lines.invariant.0 _ goes
    c.lines.invariant.1

pub returns-in-Stops-clause-ends : goal.returns-in-Stops-clause-ends
returns-in-Stops-clause-ends g c =
    let nx = c.in_ok-play_next.ensures.turned in
    let on = on_found g.J.JournalId.bounds c.args.first c.args.line.now.items (g.R.Read.remaining c.args.reader.now)
    (g.W.Write.contents c.args.writer.now) c.lines.found c.lines.line.items (g.R.Read.remaining c.lines.reader)
    (g.W.Write.contents c.lines.writer) c.lines.number c.lines.engine nx.found nx.text
    (g.R.Read.remaining c.play_next.new.reader) c.lines.invariant.2 nx.ahead in
    let goes : Goes g.J.JournalId.bounds c.lines.engine c.play_next.new.engine
    (FoundTurned g.J.JournalId.bounds (c.lines.number
    + 1) nx.found nx.text (turned.Stops c.in-Stops.cause) c.lines.engine c.play_next.new.engine) = rw c.in-Stops.is at
    nx.goes in
    let fits : FitsFound nx.found (turned.Stops c.in-Stops.cause) =
    rw c.in-Stops.is at nx.fits in
    λ le. fault_ends g.J.JournalId.bounds c.args.first c.args.line.now.items (g.R.Read.remaining c.args.reader.now)
    (g.W.Write.contents c.args.writer.now) nx.found nx.text (g.R.Read.remaining c.play_next.new.reader)
    (g.W.Write.contents c.lines.writer) c.lines.number c.lines.engine on c.play_next.new.engine
    c.lines.invariant.0 c.in-Stops.cause goes fits le (g.W.Write.contents c.write_fault.new.writer)
    (g.W.Write.contents c.finish-in-Stops.new.writer) c.in_ok-write_fault-in-Stops.ensures.all
    c.finish-in-Stops.ensures.kept

pub returns-in-Stops-clause-staged : goal.returns-in-Stops-clause-staged
returns-in-Stops-clause-staged g c =
    let nx = c.in_ok-play_next.ensures.turned in
    let goes : Goes g.J.JournalId.bounds c.lines.engine c.play_next.new.engine
    (FoundTurned g.J.JournalId.bounds (c.lines.number
    + 1) nx.found nx.text (turned.Stops c.in-Stops.cause) c.lines.engine c.play_next.new.engine) =
    rw c.in-Stops.is at nx.goes in
    let fits : FitsFound nx.found (turned.Stops c.in-Stops.cause) = rw c.in-Stops.is at nx.fits in
    let said : NotesFault c.play_next.new.engine (c.lines.number + 1) nx.text (turned.Stops c.in-Stops.cause)
    c.play_next.new.stage = rw c.in-Stops.is at nx.notes in
    let on = on_found g.J.JournalId.bounds c.args.first c.args.line.now.items (g.R.Read.remaining c.args.reader.now)
    (g.W.Write.contents c.args.writer.now) c.lines.found c.lines.line.items (g.R.Read.remaining c.lines.reader)
    (g.W.Write.contents c.lines.writer) c.lines.number c.lines.engine nx.found nx.text
    (g.R.Read.remaining c.play_next.new.reader) c.lines.invariant.2 nx.ahead in
    stop_noted g.J.JournalId.bounds c.args.first c.args.line.now.items (g.R.Read.remaining c.args.reader.now)
    (g.W.Write.contents c.args.writer.now) nx.found nx.text (g.R.Read.remaining c.play_next.new.reader)
    (g.W.Write.contents c.lines.writer) c.lines.number c.lines.engine on c.play_next.new.engine
    c.lines.invariant.0 c.in-Stops.cause goes fits c.play_next.new.stage said

pub lines-preserved : goal.lines-preserved
lines-preserved g c =
    let nx = c.in_ok-play_next.ensures.turned in
    let goes : Goes g.J.JournalId.bounds c.lines.engine c.play_next.new.engine
    (FoundTurned g.J.JournalId.bounds (c.lines.number
    + 1) nx.found nx.text (turned.Goes c.in-Goes.reply) c.lines.engine c.play_next.new.engine) =
    rw c.in-Goes.is at nx.goes in
    let fits : FitsFound nx.found (turned.Goes c.in-Goes.reply) = rw c.in-Goes.is at nx.fits in
    let some : c.lines.number + 1 ≤ MAX_LINES = nx.early c.in-Goes.reply c.in-Goes.is in
    let on = on_found g.J.JournalId.bounds c.args.first c.args.line.now.items (g.R.Read.remaining c.args.reader.now)
    (g.W.Write.contents c.args.writer.now) c.lines.found c.lines.line.items (g.R.Read.remaining c.lines.reader)
    (g.W.Write.contents c.lines.writer) c.lines.number c.lines.engine nx.found nx.text
    (g.R.Read.remaining c.play_next.new.reader) c.lines.invariant.2 nx.ahead in (
      still g.J.JournalId.bounds c.lines.number c.lines.engine c.play_next.new.engine c.lines.invariant.0 _ goes some,
      some,
      on_next g.J.JournalId.bounds c.args.first c.args.line.now.items (g.R.Read.remaining c.args.reader.now)
          (g.W.Write.contents c.args.writer.now) nx.found nx.text (g.R.Read.remaining c.play_next.new.reader)
          (g.W.Write.contents c.lines.writer) c.lines.number c.lines.engine on c.play_next.new.engine
          c.lines.invariant.0 c.in-Goes.reply goes fits (g.W.Write.contents c.write_reply.new.writer)
          c.in_ok-write_reply-in-Goes.ensures.all c.play_next.new.line.items,
      λ le. traced_on g.J.JournalId.bounds c.lines.number c.lines.engine c.play_next.new.engine c.lines.invariant.0 _
          goes le c.args.engine.now.network c.lines.invariant.3,
      λ first. numbers_next g.J.JournalId.bounds c.args.first c.args.line.now.items
          (g.R.Read.remaining c.args.reader.now) (g.W.Write.contents c.args.writer.now) nx.found nx.text
          (g.R.Read.remaining c.play_next.new.reader) (g.W.Write.contents c.lines.writer) c.lines.number
          c.lines.engine
          c.play_next.new.engine c.lines.invariant.0 c.in-Goes.reply goes fits (g.W.Write.contents
          c.write_reply.new.writer) c.in_ok-write_reply-in-Goes.ensures.all
          (λ le. traced_on g.J.JournalId.bounds c.lines.number c.lines.engine c.play_next.new.engine
          c.lines.invariant.0 _ goes le c.args.engine.now.network c.lines.invariant.3 first)
          c.play_next.new.line.items c.count_steps.result c.count_steps.ensures
          (option_map (λ v. v.items) c.lines.numbers) (option_map (λ v. v.items) c.note_line.new.numbers)
          c.note_line.ensures
          (numbers_found g.J.JournalId.bounds c.args.first c.args.line.now.items
          (g.R.Read.remaining c.args.reader.now)
          (g.W.Write.contents c.args.writer.now) c.lines.found c.lines.line.items (g.R.Read.remaining c.lines.reader)
          (g.W.Write.contents c.lines.writer) c.lines.number c.lines.engine nx.found nx.text
          (g.R.Read.remaining c.play_next.new.reader) (option_map (λ v. v.items) c.lines.numbers) nx.ahead
          (c.lines.invariant.4 first)),
    )

pub returns-in_err-finish-in-End-clause-traced : goal.returns-in_err-finish-in-End-clause-traced
returns-in_err-finish-in-End-clause-traced g c = λ le.
    traced_on g.J.JournalId.bounds c.lines.number c.lines.engine c.play_next.new.engine c.lines.invariant.0 _
    c.in_ok-play_next.ensures.turned.goes le c.args.engine.now.network c.lines.invariant.3

pub returns-in-End-clause-traced : goal.returns-in-End-clause-traced
returns-in-End-clause-traced g c = λ le. traced_on g.J.JournalId.bounds c.lines.number c.lines.engine
    c.play_next.new.engine c.lines.invariant.0 _ c.in_ok-play_next.ensures.turned.goes le c.args.engine.now.network
    c.lines.invariant.3

pub returns-in_err-write_reply-in-Goes-clause-traced : goal.returns-in_err-write_reply-in-Goes-clause-traced
returns-in_err-write_reply-in-Goes-clause-traced g c =
    λ le. traced_on g.J.JournalId.bounds c.lines.number c.lines.engine c.play_next.new.engine c.lines.invariant.0 _
    c.in_ok-play_next.ensures.turned.goes le c.args.engine.now.network c.lines.invariant.3

pub returns-in_err-write_fault-in-Stops-clause-traced : goal.returns-in_err-write_fault-in-Stops-clause-traced
returns-in_err-write_fault-in-Stops-clause-traced g c =
    λ le. traced_on g.J.JournalId.bounds c.lines.number c.lines.engine c.play_next.new.engine c.lines.invariant.0 _
    c.in_ok-play_next.ensures.turned.goes le c.args.engine.now.network c.lines.invariant.3

pub returns-in_err-finish-in-Stops-clause-traced : goal.returns-in_err-finish-in-Stops-clause-traced
returns-in_err-finish-in-Stops-clause-traced g c =
    λ le. traced_on g.J.JournalId.bounds c.lines.number c.lines.engine c.play_next.new.engine c.lines.invariant.0 _
    c.in_ok-play_next.ensures.turned.goes le c.args.engine.now.network c.lines.invariant.3

pub returns-in-Stops-clause-traced : goal.returns-in-Stops-clause-traced
returns-in-Stops-clause-traced g c = λ le. traced_on g.J.JournalId.bounds c.lines.number c.lines.engine
    c.play_next.new.engine c.lines.invariant.0 _ c.in_ok-play_next.ensures.turned.goes le c.args.engine.now.network
    c.lines.invariant.3

pub returns-in_err-replies-clause-traced : goal.returns-in_err-replies-clause-traced
returns-in_err-replies-clause-traced g c = λ le first. first

pub returns-in_err-play_next-clause-traced : goal.returns-in_err-play_next-clause-traced
returns-in_err-play_next-clause-traced g c = subst (λ (e : Held). length e.network.newest ≤ own e
    → IsTraced c.args.engine.now.network → IsTraced e.network) (sym c.in_err-play_next.ensures.same)
    c.lines.invariant.3
