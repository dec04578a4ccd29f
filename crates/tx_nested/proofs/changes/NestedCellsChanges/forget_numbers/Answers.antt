use Rattle.std.proofs.Common.{sym, ◌∙◌}
use Rattle.std.specs.BTreeMap as tree
use Rattle.std.specs.Cmp.Lexicographic.{slice_cmp}
use Rattle.std.specs.Map.{lookup}
use Rattle.std.specs.Ordering.{nat_cmp}
use Rattle.tx_nested.specs.Nested.{held_on}
use Rattle.tx_nested.proofs.changes.NestedCellsChanges.forget_numbers.Goals as goal

pub returns-clause-content : goal.returns-clause-content
returns-clause-content c =
    (λ i k. held_on (lookup (tree.is_at (slice_cmp nat_cmp k)) (c.new.ensures.empty i))) ∙ sym c.requires
