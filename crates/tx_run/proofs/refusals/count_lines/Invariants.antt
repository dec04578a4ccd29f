use Rattle.std.proofs.Common.{◌≡◌, take}
use Rattle.tx_workload.specs.Replies.{all_of}
use Rattle.tx_run.specs.Refusals.{refusals_in}
use Rattle.tx_run.proofs.refusals.count_lines.Given as goal

abbrev pub invariant-loop-part : goal.invariant-loop-part
invariant-loop-part l = l.refusals ≡ refusals_in (all_of (take l.part-index l.part-items))
