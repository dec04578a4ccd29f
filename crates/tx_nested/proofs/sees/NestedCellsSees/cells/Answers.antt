use Rattle.std.proofs.Common.{None, Option, refl, subst, ap, ◌∙◌}
use Rattle.std.specs.BTreeMap as tree
use Rattle.std.specs.Ordering.{nat_cmp}
use Rattle.std.specs.Cmp.Lexicographic.{slice_cmp}
use Rattle.tx_nested.specs.declared.key.KeyFamilies.{KeyFamilies}
use Rattle.tx_cells.specs.declared.copies.KeyVersions.{KeyVersions}
use Rattle.tx_cells.specs.Contents.{cells_of}
use Rattle.tx_cells.specs.Copies.{Copies}
use Rattle.tx_nested.specs.Nested.{held_on}
use Rattle.tx_cells.proofs.Copied.{copied_none}
use Rattle.tx_nested.proofs.sees.NestedCellsSees.cells.Goals as goal

pub returns-in-None-clause-copies : goal.returns-in-None-clause-copies
returns-in-None-clause-copies c =
    let copy : KeyVersions = record { lock = None; records = c.new.result; values = c.new-in-None.result } in
    subst (λ (o : Option KeyFamilies). Copies (cells_of (held_on o)) copy) (c.in-None.ensures.value
    ∙ ap (tree.get (slice_cmp nat_cmp) c.args.self.now.keys) c.bytes.ensures)
    (copied_none copy refl c.new.ensures c.new-in-None.ensures)
