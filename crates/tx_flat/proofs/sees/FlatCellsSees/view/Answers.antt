use Rattle.std.proofs.Common.{◌≡◌, ℕ, List, ap, subst, ◌∙◌}
use Rattle.std.specs.Prelude.{option_map}
use Rattle.std.specs.BTreeMap as tree
use Rattle.std.specs.Ordering.{nat_cmp}
use Rattle.std.specs.Cmp.Lexicographic.{slice_cmp}
use Rattle.tx_plan.specs.Views.{Shows}
use Rattle.tx_cells.specs.Contents.{cells_of}
use Rattle.tx_cells.specs.Heads.{lock_head}
use Rattle.tx_flat.specs.Flats.{flat_content}
use Rattle.tx_cells.proofs.Facts.{dated, whole_at}
use Rattle.tx_cells.proofs.RecordCells.{shown_past}
use Rattle.tx_flat.proofs.sees.FlatCellsSees.view.Goals as goal

pub returns-then-past-clause-shows : goal.returns-then-past-clause-shows
returns-then-past-clause-shows c =
    let flat = c.args.self.now in
    let key = c.args.key.now in
    let lock = c.head_on-lock.result in
    shown_past (flat_content flat key) c.args.start c.args.commit lock
    (dated (flat_content flat key) (whole_at (flat_content flat) flat.whole key))
    (c.in_ok-past.ensures.start c.if-past.true) (c.in_ok-past.ensures.commit c.if-past.true)
    (subst (λ (k : List ℕ). lock
    ≡ option_map lock_head (tree.get (slice_cmp nat_cmp) flat.locks k)) c.bytes.ensures c.head_on-lock.ensures)

pub returns-clause-shows : goal.returns-clause-shows
returns-clause-shows c =
    subst (λ (k : List ℕ). Shows (cells_of (flat_content c.args.self.now k)) c.args.start c.args.commit
    c.view_by.result)
    (ap (λ (v : List ℕ × ℕ). v.0) c.in_ok-version.ensures) c.view_by.ensures
