-- One line more. A refused step is let go of by its kind, so that its case comes five times.
use Rattle.std.proofs.Common.{arith}
use Rattle.tx_check.proofs.Traces.{if_some}
use Rattle.tx_check.proofs.Onward.{all_so_far, made, left_out, cut_off}
use Rattle.tx_check.proofs.all.walk_on.Goals as goal

pub lines-init : goal.lines-init
lines-init g c = (
  omega arith,
  all_so_far c.args.has_reasons (g.R.Read.remaining c.args.reader.now) _ _ c.new-machine.ensures
      c.new-text.ensures.items,
)

pub lines-preserved-in-Made : goal.lines-preserved-in-Made
lines-preserved-in-Made g c =
    let turns = rw c.in-Made.is at c.in_ok-next.ensures.turns in (
      c.in_ok-next.ensures.early c.in-Made.is,
      if_some _ (λ input soon. made soon (g.R.Read.remaining c.next.new.reader) c.next.new.machine turns)
          c.lines.invariant.1,
    )

pub returns-in-Faulted : goal.returns-in-Faulted
returns-in-Faulted g c =
    let turns = rw c.in-Faulted.is at c.in_ok-next.ensures.turns in
    if_some _ (λ input soon. cut_off soon (g.R.Read.remaining c.next.new.reader) c.next.new.machine c.in-Faulted.cause
    c.put_verdict.new.text.items turns c.in_ok-put_verdict-in-Faulted.ensures) c.lines.invariant.1

pub lines-preserved-in_ok-put_no-in-Refused : goal.lines-preserved-in_ok-put_no-in-Refused
lines-preserved-in_ok-put_no-in-Refused g c =
    let turns = rw c.in-Refused.is at c.in_ok-next.ensures.turns in (
      c.in_ok-next.ensures.refused c.in-Refused.step c.in-Refused.is,
      if_some _ (λ input soon. left_out soon (g.R.Read.remaining c.next.new.reader) c.next.new.machine
          c.in-Refused.step c.put_no.new.text.items turns c.in_ok-put_no-in-Refused.ensures) c.lines.invariant.1,
    )

pub lines-preserved-in_ok-put_no-in-Refused-2 : goal.lines-preserved-in_ok-put_no-in-Refused-2
lines-preserved-in_ok-put_no-in-Refused-2 g c =
    let turns = rw c.in-Refused.is at c.in_ok-next.ensures.turns in (
      c.in_ok-next.ensures.refused c.in-Refused.step c.in-Refused.is,
      if_some _ (λ input soon. left_out soon (g.R.Read.remaining c.next.new.reader) c.next.new.machine
          c.in-Refused.step c.put_no.new.text.items turns c.in_ok-put_no-in-Refused.ensures) c.lines.invariant.1,
    )

pub lines-preserved-in_ok-put_no-in-Refused-3 : goal.lines-preserved-in_ok-put_no-in-Refused-3
lines-preserved-in_ok-put_no-in-Refused-3 g c =
    let turns = rw c.in-Refused.is at c.in_ok-next.ensures.turns in (
      c.in_ok-next.ensures.refused c.in-Refused.step c.in-Refused.is,
      if_some _ (λ input soon. left_out soon (g.R.Read.remaining c.next.new.reader) c.next.new.machine
          c.in-Refused.step c.put_no.new.text.items turns c.in_ok-put_no-in-Refused.ensures) c.lines.invariant.1,
    )

pub lines-preserved-in_ok-put_no-in-Refused-4 : goal.lines-preserved-in_ok-put_no-in-Refused-4
lines-preserved-in_ok-put_no-in-Refused-4 g c =
    let turns = rw c.in-Refused.is at c.in_ok-next.ensures.turns in (
      c.in_ok-next.ensures.refused c.in-Refused.step c.in-Refused.is,
      if_some _ (λ input soon. left_out soon (g.R.Read.remaining c.next.new.reader) c.next.new.machine
          c.in-Refused.step c.put_no.new.text.items turns c.in_ok-put_no-in-Refused.ensures) c.lines.invariant.1,
    )

pub lines-preserved : goal.lines-preserved
lines-preserved g c =
    let turns = rw c.in-Refused.is at c.in_ok-next.ensures.turns in (
      c.in_ok-next.ensures.refused c.in-Refused.step c.in-Refused.is,
      if_some _ (λ input soon. left_out soon (g.R.Read.remaining c.next.new.reader) c.next.new.machine
          c.in-Refused.step c.put_no.new.text.items turns c.in_ok-put_no-in-Refused.ensures) c.lines.invariant.1,
    )
