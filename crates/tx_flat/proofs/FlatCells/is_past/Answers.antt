use Rattle.std.proofs.Common.{◌<◌, sym, arith}
use Rattle.std.specs.BTreeMap as tree
use Rattle.tx_flat.specs.Ceilings.{ceiling_of}
use Rattle.tx_spelling.specs.Spelt.{version_cmp}
use Rattle.tx_flat.specs.Flats.{flat_content}
use Rattle.tx_cells.proofs.Facts.{fitting, whole_at}
use Rattle.tx_flat.proofs.FlatBounds.{none_past}
use Rattle.tx_flat.proofs.FlatCells.is_past.Goals as goal

pub are_past-requires-clause-fitting : goal.are_past-requires-clause-fitting
are_past-requires-clause-fitting c =
    let flat = c.args.self.now in
    let key = c.in_ok-greatest.greatest.0 in
    fitting (flat_content flat key) (whole_at (flat_content flat) flat.whole key)

pub returns-then-is_older-clause-start : goal.returns-then-is_older-clause-start
returns-then-is_older-clause-start c = λ t.
    let flat = c.args.self.now in
    let past : ceiling_of flat.ceilings c.args.key.now < c.args.start =
    omega (arith, sym c.of.ensures, c.is_older.ensures.start c.if-is_older.true) in
    none_past (tree.get version_cmp flat.writes) (ceiling_of flat.ceilings) c.args.key.now c.args.start past
    flat.bounded

pub returns-then-is_older-clause-commit : goal.returns-then-is_older-clause-commit
returns-then-is_older-clause-commit c = λ t.
    let flat = c.args.self.now in
    let past : ceiling_of flat.ceilings c.args.key.now < c.args.commit =
    omega (arith, sym c.of.ensures, c.is_older.ensures.commit c.if-is_older.true) in
    none_past (tree.get version_cmp flat.writes) (ceiling_of flat.ceilings) c.args.key.now c.args.commit past
    flat.bounded
