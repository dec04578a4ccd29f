use Rattle.std.proofs.Common.{◌+◌, length, option_map, inl, ap, ◌∙◌}
use Rattle.tx_types.specs.declared.limits.TheConstants.{MAX_LINES}
use Rattle.tx_engine.specs.Slots.{Held}
use Rattle.tx_network.specs.Networks.{IsTraced}
use Rattle.tx_script.specs.Loops.{AreOf}
use Rattle.tx_script.proofs.Scripts.{if_err_is}
use Rattle.tx_script.proofs.Ends.{breaks_lines}
use Rattle.tx_script.proofs.Checks.{opens_too, seated_too, traced_first, are_of, are_run}
use Rattle.tx_script.proofs.NumberedEnds.{ends_numbered, breaks_numbered}
use Rattle.tx_script.proofs.script.number_over.Goals as goal

pub play_lines-ended-requires-clause-opening : goal.play_lines-ended-requires-clause-opening
play_lines-ended-requires-clause-opening g c = opens_too c.keep_trace.ensures.0 c.args.engine c.keep_trace.new.self
    c.keep_trace.ensures.2 c.requires.opening

pub play_lines-ended-requires-clause-slots : goal.play_lines-ended-requires-clause-slots
play_lines-ended-requires-clause-slots g c = ap (λ (e : Held). length e.slots) c.keep_trace.ensures.2 ∙ c.requires.slots

pub play_lines-ended-requires-clause-ready : goal.play_lines-ended-requires-clause-ready
play_lines-ended-requires-clause-ready g c = seated_too c.keep_trace.ensures.0 c.args.engine c.keep_trace.new.self
    c.keep_trace.ensures.2 g.J.JournalId.bounds (MAX_LINES + 1) c.requires.ready

pub write_numbered-requires : goal.write_numbered-requires
write_numbered-requires g c =
    let traced : IsTraced c.keep_trace.new.self.network =
    traced_first c.keep_trace.ensures.0 c.args.engine c.keep_trace.new.self c.keep_trace.ensures.2
    c.requires.opening c.keep_trace.ensures.1 in
    record {
      run = are_run g.J.JournalId.bounds c.play_lines-ended.new.engine c.close-trace.ensures.came
          c.close-trace.ensures.run c.close-trace.result c.close-trace.ensures.trace
          (λ le. c.play_lines-ended.ensures.traced le traced);
    }

pub returns-in_err-end-clause-breaks : goal.returns-in_err-end-clause-breaks
returns-in_err-end-clause-breaks g c =
    let why = c.in_err-end.field-0.0 in
    let h = rw c.in_err-end.was at c.play_lines-ended.ensures.breaks in
    if_err_is _ _ why c.from_residual.ensures.1
    (λ lines a. inl (breaks_lines g.J.JournalId.bounds c.play_lines-ended.new.engine c.close-trace.ensures.came
    c.close-trace.ensures.run lines (g.W.Write.contents c.args.writer.now)
    (g.W.Write.contents c.play_lines-ended.new.writer) why (λ le. h le lines a)))

pub returns-in_err-write_numbered-clause-breaks : goal.returns-in_err-write_numbered-clause-breaks
returns-in_err-write_numbered-clause-breaks g c =
    let traced : IsTraced c.keep_trace.new.self.network =
    traced_first c.keep_trace.ensures.0 c.args.engine c.keep_trace.new.self c.keep_trace.ensures.2
    c.requires.opening c.keep_trace.ensures.1 in
    let of : AreOf c.play_lines-ended.new.engine.network.newest c.close-trace.result =
    are_of g.J.JournalId.bounds c.play_lines-ended.new.engine c.close-trace.ensures.came c.close-trace.ensures.run
    c.close-trace.result c.close-trace.ensures.trace (λ le. c.play_lines-ended.ensures.traced le traced) in
    let why = c.in_err-write_numbered.field-0.0 in
    let h = rw c.in_ok-end.was at c.play_lines-ended.ensures.ends in
    let n = rw c.in_ok-end.was at c.play_lines-ended.ensures.numbered in
    let part = c.in_err-write_numbered.ensures.part in
    if_err_is _ _ why c.from_residual-in_err-write_numbered.ensures.1
    (λ lines a. breaks_numbered g.J.JournalId.bounds c.play_lines-ended.new.engine c.close-trace.ensures.came
    c.close-trace.ensures.run lines (g.W.Write.contents c.args.writer.now)
    (g.W.Write.contents c.play_lines-ended.new.writer) (g.W.Write.contents c.write_numbered.new.writer)
    c.in_ok-end.end (option_map (λ v. v.items) c.play_lines-ended.new.numbers) (λ le. h le lines a) part.0
    (n part.0 c.close-trace.ensures.came c.close-trace.ensures.run traced lines a) why
    (part.1 c.play_lines-ended.new.engine.network.newest of))

pub returns-clause-ends : goal.returns-clause-ends
returns-clause-ends g c =
    let traced : IsTraced c.keep_trace.new.self.network =
    traced_first c.keep_trace.ensures.0 c.args.engine c.keep_trace.new.self c.keep_trace.ensures.2
    c.requires.opening c.keep_trace.ensures.1 in
    let of : AreOf c.play_lines-ended.new.engine.network.newest c.close-trace.result =
    are_of g.J.JournalId.bounds c.play_lines-ended.new.engine c.close-trace.ensures.came c.close-trace.ensures.run
    c.close-trace.result c.close-trace.ensures.trace (λ le. c.play_lines-ended.ensures.traced le traced) in
    let h = rw c.in_ok-end.was at c.play_lines-ended.ensures.ends in
    let n = rw c.in_ok-end.was at c.play_lines-ended.ensures.numbered in
    λ lines a. ends_numbered g.J.JournalId.bounds c.play_lines-ended.new.engine c.close-trace.ensures.came
    c.close-trace.ensures.run lines (g.W.Write.contents c.args.writer.now)
    (g.W.Write.contents c.play_lines-ended.new.writer) (g.W.Write.contents c.write_numbered.new.writer)
    c.in_ok-end.end (option_map (λ v. v.items) c.play_lines-ended.new.numbers) (λ le. h le lines a)
    (λ well. n well c.close-trace.ensures.came c.close-trace.ensures.run traced lines a)
    (c.in_ok-write_numbered.ensures.all c.play_lines-ended.new.engine.network.newest of)

pub returns-clause-staged : goal.returns-clause-staged
returns-clause-staged g c =
    let h = rw c.in_ok-end.was at c.play_lines-ended.ensures.staged in
    λ lines a. h c.close-trace.ensures.came lines a
