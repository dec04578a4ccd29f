use Rattle.std.proofs.Common.{◌+◌, ◌++◌, ◌∷◌, [], length, ap, ◌∙◌, length-append, arith}
use Rattle.tx_check.proofs.Traces.{if_some, ended, refused, stands_at, faulted}
use Rattle.tx_check.proofs.Walks.{kept_so_far, as_far, kept_at, made_kept}
use Rattle.tx_check.proofs.explanation.walk_kept.Goals as goal

pub lines-preserved : goal.lines-preserved
lines-preserved g c =
    let turns = rw c.in-Made.is at c.in_ok-step.ensures.turns in (
      c.in_ok-step.ensures.early c.in-Made.step c.in-Made.is,
      ap length c.in_ok-push-in-Made.ensures.items ∙ length-append c.lines.steps.items (c.in-Made.step ∷ [])
          ∙ ap (λ n. n + 1) c.lines.invariant.1,
      if_some _ (λ input soon. made_kept soon (g.R.Read.remaining c.next_step.new.reader) c.next_step.new.machine
          c.in-Made.step c.push.new.self.items turns c.in_ok-push-in-Made.ensures.items) c.lines.invariant.2,
    )

pub returns-in-Refused-clause-verdict : goal.returns-in-Refused-clause-verdict
returns-in-Refused-clause-verdict g c =
    let turns = rw c.in-Refused.is at c.in_ok-step.ensures.turns in
    if_some _ (λ input soon. refused (as_far soon) (g.R.Read.remaining c.next_step.new.reader) c.next_step.new.machine
    c.in-Refused.step turns) c.lines.invariant.2

pub returns-in-Refused-clause-stops : goal.returns-in-Refused-clause-stops
returns-in-Refused-clause-stops g c =
    let turns = rw c.in-Refused.is at c.in_ok-step.ensures.turns in
    if_some _ (λ input soon. stands_at (as_far soon) (g.R.Read.remaining c.next_step.new.reader)
    c.next_step.new.machine c.in-Refused.step turns) c.lines.invariant.2

pub returns-in-Refused-clause-kept : goal.returns-in-Refused-clause-kept
returns-in-Refused-clause-kept g c =
    let turns = rw c.in-Refused.is at c.in_ok-step.ensures.turns in
    if_some _ (λ input soon. kept_at soon (g.R.Read.remaining c.next_step.new.reader) c.next_step.new.machine
    c.in-Refused.step turns) c.lines.invariant.2

pub returns-in-End-clause-verdict : goal.returns-in-End-clause-verdict
returns-in-End-clause-verdict g c =
    let turns = rw c.in-End.is at c.in_ok-step.ensures.turns in
    if_some _ (λ input soon. ended (as_far soon) (g.R.Read.remaining c.next_step.new.reader) c.next_step.new.machine
    turns) c.lines.invariant.2

pub returns-in-Faulted-clause-verdict : goal.returns-in-Faulted-clause-verdict
returns-in-Faulted-clause-verdict g c =
    let turns = rw c.in-Faulted.is at c.in_ok-step.ensures.turns in
    if_some _ (λ input soon. faulted (as_far soon) (g.R.Read.remaining c.next_step.new.reader) c.next_step.new.machine
    c.in-Faulted.cause turns) c.lines.invariant.2
