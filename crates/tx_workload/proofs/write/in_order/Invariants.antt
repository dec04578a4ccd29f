use Rattle.std.proofs.Common.{◌≡◌, ◌++◌, All, map, take}
use Rattle.tx_workload.specs.Replies.{all_of}
use Rattle.tx_workload.proofs.write.in_order.Given as goal

abbrev pub invariant-loop-part : goal.invariant-loop-part
invariant-loop-part l = record {
  numbers : All (λ p. p.0 ≡ p.1.now.number) l.lines.items;
  lines : map (λ p. p.1.now) l.lines.items ≡ all_of (take l.part-index l.part-items);
}
