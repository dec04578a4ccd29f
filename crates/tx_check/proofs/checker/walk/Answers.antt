use Rattle.std.proofs.Common.{arith}
use Rattle.tx_check.proofs.Traces.{if_some, so_far, ended, refused, faulted, made}
use Rattle.tx_check.proofs.checker.walk.Goals as goal

pub lines-init : goal.lines-init
lines-init g c = (omega arith, so_far (g.R.Read.remaining c.args.reader.now) _ c.new-machine.ensures)

pub lines-preserved : goal.lines-preserved
lines-preserved g c =
    let turns = rw c.in-Made.is at c.in_ok-next.ensures.turns in (
      c.in_ok-next.ensures.early c.in-Made.is,
      if_some _ (λ input soon. made soon (g.R.Read.remaining c.next.new.reader) c.next.new.machine turns)
          c.lines.invariant.1,
    )

pub returns-in-Refused : goal.returns-in-Refused
returns-in-Refused g c =
    let turns = rw c.in-Refused.is at c.in_ok-next.ensures.turns in
    if_some _ (λ input soon. refused soon (g.R.Read.remaining c.next.new.reader) c.next.new.machine c.in-Refused.step
    turns) c.lines.invariant.1

pub returns-in-End : goal.returns-in-End
returns-in-End g c =
    let turns = rw c.in-End.is at c.in_ok-next.ensures.turns in
    if_some _ (λ input soon. ended soon (g.R.Read.remaining c.next.new.reader) c.next.new.machine turns)
    c.lines.invariant.1

pub returns-in-Faulted : goal.returns-in-Faulted
returns-in-Faulted g c =
    let turns = rw c.in-Faulted.is at c.in_ok-next.ensures.turns in
    if_some _ (λ input soon. faulted soon (g.R.Read.remaining c.next.new.reader) c.next.new.machine c.in-Faulted.cause
    turns) c.lines.invariant.1
