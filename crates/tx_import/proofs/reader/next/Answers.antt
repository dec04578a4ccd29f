use Rattle.std.proofs.Common.{◌≡◌, ◌+◌, ◌^◌, ◌≤◌, false, refl, subst, inl, inr, rules}
use Rattle.tx_types.specs.declared.fault.Cause.TheVariants.{Lines}
use Rattle.tx_text.specs.Lines.{lines_of}
use Rattle.tx_import.specs.declared.reader.HistoryTurn.TheVariants.{Put, Faulted}
use Rattle.tx_import.specs.Drafts.{weight, held}
use Rattle.tx_import.specs.Histories.{Says, SaysNone}
use Rattle.tx_import.specs.Turns.{HistoryTurns}
use Rattle.tx_import.proofs.ReadLines.{if_some, no_room}
use Rattle.tx_import.proofs.reader.next.Goals as goal

pub returns-then-not-has_room-clause-turns : goal.returns-then-not-has_room-clause-turns
returns-then-not-has_room-clause-turns g c =
    let reads = rw c.in-Line.is at c.in_ok-read_line.ensures.reads in
    let line = c.read_line.new.line.items in
    let d = c.args.draft.now in
    let said = c.in-Ok.said in
    let found : Says c.args.number line said =
    subst (λ bytes. Says c.args.number bytes said) c.deref.ensures.value (rw c.in-Ok.is at c.in_ok-said.ensures.said) in
    let full : c.has_room.result ≡ false = search rules in
    let test = rw c.as_slice.ensures at c.has_room.ensures in
    let much : 2 ^ 32 ≤ held d + weight said.ops = no_room c.has_room.result (held d + weight said.ops) test full in
    if_some _ (λ bytes read.
    let turns : HistoryTurns bytes (g.R.Read.remaining c.read_line.new.reader) d d c.args.number (Faulted Lines) =
    (line, lines_of read.0, read.3, inr (said, found, much, refl)) in turns) reads

pub returns-in-Err-clause-turns : goal.returns-in-Err-clause-turns
returns-in-Err-clause-turns g c =
    let reads = rw c.in-Line.is at c.in_ok-read_line.ensures.reads in
    let line = c.read_line.new.line.items in
    let d = c.args.draft.now in
    let cause = c.in-Err.cause in
    let none : SaysNone c.args.number line cause =
    subst (λ bytes. SaysNone c.args.number bytes cause) c.deref.ensures.value
    (rw c.in-Err.is at c.in_ok-said.ensures.said) in
    if_some _ (λ bytes read.
    let turns : HistoryTurns bytes (g.R.Read.remaining c.read_line.new.reader) d d c.args.number (Faulted cause) =
    (line, lines_of read.0, read.3, inl none) in turns) reads

pub returns-clause-turns : goal.returns-clause-turns
returns-clause-turns g c =
    let reads = rw c.in-Line.is at c.in_ok-read_line.ensures.reads in
    let line = c.read_line.new.line.items in
    let said = c.in-Ok.said in
    let found : Says c.args.number line said =
    subst (λ bytes. Says c.args.number bytes said) c.deref.ensures.value (rw c.in-Ok.is at c.in_ok-said.ensures.said) in
    let puts = c.in_ok-put.ensures in
    if_some _ (λ bytes read.
    let turns : HistoryTurns bytes (g.R.Read.remaining c.read_line.new.reader) c.args.draft.now c.put.new.self
    c.args.number Put =
    (line, read.0, said, read.1, read.3, found, record { adds = puts.said; grows = puts.grows; held_is = puts.held }) in
    turns) reads
