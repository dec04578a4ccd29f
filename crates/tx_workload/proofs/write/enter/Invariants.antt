use Rattle.std.proofs.Common.{◌≡◌, ◌++◌, All, map, take}
use Rattle.tx_workload.proofs.write.enter.Given as goal

abbrev pub invariant-loop-reply : goal.invariant-loop-reply
invariant-loop-reply l = record {
  numbers : All (λ p. p.0 ≡ p.1.now.number) l.lines.items;
  lines : map (λ p. p.1.now) l.lines.items ≡ map (λ p. p.1.now) l.fn.lines.items ++ take l.reply-index l.replies;
}
