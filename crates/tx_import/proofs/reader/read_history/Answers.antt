use Rattle.std.proofs.Common.{arith}
use Rattle.tx_import.proofs.ReadLines.{if_some, so_far, ended, faulted, put}
use Rattle.tx_import.proofs.reader.read_history.Goals as goal

pub lines-init : goal.lines-init
lines-init g c = (
  omega arith,
  omega (arith, c.new-draft.ensures.counted),
  c.new-draft.ensures.fits,
  so_far (g.R.Read.remaining c.args.reader.now) _ c.new-draft.ensures.none c.new-draft.ensures.held,
)

pub lines-preserved : goal.lines-preserved
lines-preserved g c =
    let turns = rw c.in-Put.is at c.in_ok-next.ensures.turns in (
      c.in_ok-next.ensures.early c.in-Put.is,
      omega (arith, c.in_ok-next.ensures.counts, c.lines.invariant.1),
      c.in_ok-next.ensures.fits,
      if_some _ (λ input soon. put soon (g.R.Read.remaining c.next.new.reader) c.next.new.draft turns)
          c.lines.invariant.3,
    )

pub returns-in-Faulted-clause-read : goal.returns-in-Faulted-clause-read
returns-in-Faulted-clause-read g c =
    let turns = rw c.in-Faulted.is at c.in_ok-next.ensures.turns in
    if_some _ (λ input soon. faulted soon (g.R.Read.remaining c.next.new.reader) c.next.new.draft c.in-Faulted.cause
    turns) c.lines.invariant.3

pub returns-in-End-clause-read : goal.returns-in-End-clause-read
returns-in-End-clause-read g c =
    let turns = rw c.in-End.is at c.in_ok-next.ensures.turns in
    if_some _ (λ input soon. ended soon (g.R.Read.remaining c.next.new.reader) c.next.new.draft _
    c.history_of.ensures.history turns) c.lines.invariant.3
