use Rattle.std.proofs.Common.{Option, subst, ap, ◌∙◌}
use Rattle.std.specs.Prelude.{IfOk}
use Rattle.std.specs.BTreeMap as tree
use Rattle.std.specs.Ordering.{nat_cmp}
use Rattle.std.specs.Cmp.Lexicographic.{slice_cmp}
use Rattle.tx_plan.specs.declared.view.ReadView.{ReadView}
use Rattle.tx_plan.specs.Views.{ShowsRead}
use Rattle.tx_nested.specs.declared.key.KeyFamilies.{KeyFamilies}
use Rattle.tx_cells.specs.Contents.{cells_of}
use Rattle.tx_nested.specs.Nested.{held_on}
use Rattle.tx_nested.proofs.sees.NestedCellsSees.read.Goals as goal

pub returns-in-Some-clause-shows : goal.returns-in-Some-clause-shows
returns-in-Some-clause-shows c =
    subst (λ (o : Option KeyFamilies). IfOk c.read.result
    (λ (view : ReadView). ShowsRead (cells_of (held_on o)) c.args.at view)) (c.in-Some.ensures.value
    ∙ ap (tree.get (slice_cmp nat_cmp) c.args.self.now.keys) c.bytes.ensures) c.read.ensures.shows
