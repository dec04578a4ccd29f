use Rattle.std.proofs.Common.{◌≡◌, ◌+◌, sym, subst, map, List, ℕ, None, Result, OnOk, vec_len, arith}
use Rattle.std.specs.BTreeMap.{get_by_text}
use Rattle.tx_types.specs.declared.fault.Cause.{Cause}
use Rattle.tx_workload.specs.Faults.{TakesLine, fault_of}
use Rattle.tx_transfer.specs.Sources.{HasLine}
use Rattle.tx_workload.specs.LineNumbers.{numbers_in}
use Rattle.tx_workload.specs.ScriptLines.{KeepsText}
use Rattle.tx_workload.specs.Readers.{HasSorted}
use Rattle.tx_workload.proofs.ReaderStates.{before_whole}
use Rattle.tx_workload.proofs.Sources.{stands_first, line_read, stands_next, so_far_first, so_far_next, so_far_whole, long_fault, take_fault, few_lines}
use Rattle.tx_workload.proofs.script.read_script.Goals as goal

pub loop-number-init : goal.loop-number-init
loop-number-init g c = record {
  within = c.new-reading.ensures.within;
  sorted = c.new-reading.ensures.sorted;
  stands = stands_first g.L.Source.text (g.B.Read.remaining c.args.reader.now) c.requires;
  so_far = so_far_first g.L.Source.text;
  fewer = omega (arith, c.new-reading.ensures.none);
  few = omega arith;
}

pub take-requires-clause-line : goal.take-requires-clause-line
take-requires-clause-line g c =
    let reads = rw c.in-Line.is at c.in_ok-read_line.ensures.reads in
    subst (λ (l : List ℕ). HasLine g.L.Source.text c.loop-number.number l) (sym c.as_slice.ensures.value)
    (line_read g.L.Source.text (g.B.Read.remaining c.loop-number.reader) (g.B.Read.remaining c.read_line.new.reader)
    c.loop-number.number c.read_line.new.line.items c.loop-number.invariant.stands reads)

pub loop-number-preserved : goal.loop-number-preserved
loop-number-preserved g c =
    let source = g.L.Source.text in
    let number = c.loop-number.number in
    let line = c.as_slice.result.now in
    let reads = rw c.in-Line.is at c.in_ok-read_line.ensures.reads in
    let has : HasLine source number line =
    subst (λ (l : List ℕ). HasLine source number l) (sym c.as_slice.ensures.value)
    (line_read source (g.B.Read.remaining c.loop-number.reader) (g.B.Read.remaining c.read_line.new.reader) number
    c.read_line.new.line.items c.loop-number.invariant.stands reads) in
    let none : fault_of number line ≡ None =
    subst (λ (r : Result (Unit {0}) Cause). TakesLine number line (vec_len c.loop-number.reading.script.sessions) r)
    c.in_default.is c.in_ok-cause-in-Line.ensures.takes in
    record {
      within = c.in_ok-cause-in-Line.ensures.within;
      sorted = subst (λ (r : Result (Unit {0}) Cause). OnOk r (HasSorted source (number + 1) c.take.new.self))
          c.in_default.is c.in_ok-cause-in-Line.ensures.sorted;
      stands = stands_next source (g.B.Read.remaining c.loop-number.reader) (g.B.Read.remaining c.read_line.new.reader)
          number c.read_line.new.line.items c.loop-number.invariant.stands reads;
      so_far = so_far_next source number line (omega (arith, c.loop-number.auto.number)) c.loop-number.invariant.so_far
          has none;
      fewer = omega (arith, c.loop-number.invariant.fewer, c.in_ok-cause-in-Line.ensures.one);
      few = omega (arith, few_lines number line none);
    }

pub returns-in-End-clause-whole : goal.returns-in-End-clause-whole
returns-in-End-clause-whole g c =
    let ends = rw c.in-End.is at c.in_ok-read_line.ensures.reads in
    so_far_whole g.L.Source.text (g.B.Read.remaining c.loop-number.reader) c.loop-number.number
    c.loop-number.invariant.stands ends c.loop-number.invariant.so_far

pub returns-in-End-clause-kept : goal.returns-in-End-clause-kept
returns-in-End-clause-kept g c =
    let source = g.L.Source.text in
    let reading = c.loop-number.reading in
    let ends = rw c.in-End.is at c.in_ok-read_line.ensures.reads in
    subst (λ s. KeepsText source (numbers_in s.sessions.items) (map (λ seed. seed.number) s.seeds.items)
    s.bounds.items)
    (sym c.into_script.ensures)
    (before_whole source (g.B.Read.remaining c.loop-number.reader) c.loop-number.number (get_by_text reading.indexes)
    (numbers_in reading.script.sessions.items) (map (λ seed. seed.number) reading.script.seeds.items)
    reading.script.bounds.items c.loop-number.invariant.stands ends c.loop-number.invariant.sorted)

pub returns-in-Long-clause-fault : goal.returns-in-Long-clause-fault
returns-in-Long-clause-fault g c =
    let reads = rw c.in-Long.is at c.in_ok-read_line.ensures.reads in
    long_fault g.L.Source.text (g.B.Read.remaining c.loop-number.reader) (g.B.Read.remaining c.read_line.new.reader)
    c.read_line.new.line.items c.loop-number.number c.loop-number.invariant.stands reads
    c.loop-number.invariant.so_far

pub returns-in-Err-clause-fault : goal.returns-in-Err-clause-fault
returns-in-Err-clause-fault g c =
    let source = g.L.Source.text in
    let number = c.loop-number.number in
    let line = c.as_slice.result.now in
    let reads = rw c.in-Line.is at c.in_ok-read_line.ensures.reads in
    let has : HasLine source number line =
    subst (λ (l : List ℕ). HasLine source number l) (sym c.as_slice.ensures.value)
    (line_read source (g.B.Read.remaining c.loop-number.reader) (g.B.Read.remaining c.read_line.new.reader) number
    c.read_line.new.line.items c.loop-number.invariant.stands reads) in
    let takes = rw c.in-Err.is at c.in_ok-cause-in-Line.ensures.takes in
    take_fault source number (vec_len c.loop-number.reading.script.sessions) line c.in-Err.cause has
    c.loop-number.invariant.so_far c.loop-number.invariant.fewer takes
