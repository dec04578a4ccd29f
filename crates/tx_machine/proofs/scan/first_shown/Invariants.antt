use Rattle.std.proofs.Common.{◌↔◌}
use Rattle.std.specs.Cmp.Lexicographic.{slice_cmp}
use Rattle.std.specs.Ordering.{nat_cmp}
use Rattle.std.specs.declared.ops.Bound.TheVariants.{Excluded}
use Rattle.std.specs.Range.Bound.{bound_map}
use Rattle.std.specs.BTreeMap.Range.{entries_between}
use Rattle.std.specs.List.{All}
use Rattle.tx_machine.proofs.Scans.{ShowsNone}
use Rattle.tx_machine.proofs.scan.first_shown.Given as goal

abbrev pub invariant-loop-key : goal.invariant-loop-key
invariant-loop-key l =
    All (ShowsNone l.fates l.at)
    (entries_between (slice_cmp nat_cmp) (bound_map (λ x. x.now) l.from) (Excluded l.to) l.index.entries)
    ↔ All (ShowsNone l.fates l.at) l.key-iterator
