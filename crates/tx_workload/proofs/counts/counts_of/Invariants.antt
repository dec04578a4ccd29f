use Rattle.std.proofs.Common.{◌≡◌, map, take}
use Rattle.tx_workload.specs.Texts.{counts_of}
use Rattle.tx_workload.proofs.counts.counts_of.Given as goal

abbrev pub invariant-loop-reply : goal.invariant-loop-reply
invariant-loop-reply l = l.counts ≡ counts_of (take l.reply-index (map (λ p. p.1.now) l.lines))
