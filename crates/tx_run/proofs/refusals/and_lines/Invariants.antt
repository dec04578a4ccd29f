use Rattle.std.proofs.Common.{◌≡◌, take}
use Rattle.std.specs.List.{fold}
use Rattle.tx_run.specs.Refusals.{with_line}
use Rattle.tx_run.proofs.refusals.and_lines.Given as goal

abbrev pub invariant-loop-reply : goal.invariant-loop-reply
invariant-loop-reply l =
    l.refusals ≡ fold (λ r s. with_line r s.answer) l.fn.refusals (take l.reply-index l.lines)
