use Rattle.std.proofs.Common.{◌≡◌, ◌++◌, take}
use Rattle.std.specs.List.{flat_map}
use Rattle.tx_diagram.specs.Pictures.{settled_picture}
use Rattle.tx_diagram.proofs.refutation.put_all_settled.Given as goal

abbrev pub invariant-loop-fact : goal.invariant-loop-fact
invariant-loop-fact l = l.out.items ≡ l.fn.out.items ++ flat_map (settled_picture l.history) (take l.fact-index l.facts)
