use Rattle.std.proofs.Common.{◌≡◌, take, is_some}
use Rattle.std.specs.Cmp.Lexicographic.{slice_cmp}
use Rattle.std.specs.Ordering.{nat_cmp}
use Rattle.std.specs.BTreeSet as sorted
use Rattle.tx_types.specs.declared.key.Key.{Key}
use Rattle.tx_machine.specs.Keys.{mutation_at, IsDistinct}
use Rattle.tx_machine.proofs.sets.looked_up.Given as goal

abbrev pub invariant-loop-change : goal.invariant-loop-change
invariant-loop-change l = record {
  distinct : IsDistinct (take l.change-index l.set);
  earlier : (k : Key) → sorted.contains (slice_cmp nat_cmp) l.earlier k
      ≡ is_some (mutation_at (take l.change-index l.set) k);
}
