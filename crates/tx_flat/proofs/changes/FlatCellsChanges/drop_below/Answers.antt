use Rattle.std.proofs.Math.Logic.{∥∥₁_map}
use Rattle.std.specs.BTreeMap as tree
use Rattle.tx_flat.specs.Flats.{flat_content}
use Rattle.tx_flat.specs.Ceilings.{ceiling_of}
use Rattle.tx_spelling.specs.Spelt.{version_cmp}
use Rattle.tx_cells.proofs.Facts.{whole_at}
use Rattle.tx_flat.proofs.FlatDrops.{whole_now, collected_now, cells_now}
use Rattle.tx_flat.proofs.FlatBounds.{below_less, kept_none}
use Rattle.tx_flat.proofs.changes.FlatCellsChanges.drop_below.Goals as goal

pub invariant_of-self : goal.invariant_of-self
invariant_of-self c =
    let flat = c.args.self.now in
    record {
      whole = ∥∥₁_map flat.whole
          (λ w k. whole_now (flat_content flat k) c.args.safe
          (λ q. tree.get version_cmp c.drop_records.new.writes (k, q))
          (λ t. tree.get version_cmp c.drop_values.new.values (k, t))
          (c.drop_records.ensures (flat_content flat k).value k) (c.drop_values.ensures.gone k)
          (c.drop_values.ensures.stayed k) (c.drop_values.ensures.fewer k)
          (whole_at (flat_content flat) flat.whole k) (w k));
      bounded = below_less (tree.get version_cmp flat.writes) (tree.get version_cmp c.drop_records.new.writes)
          (ceiling_of flat.ceilings)
          (λ k q. kept_none _ (tree.get version_cmp flat.writes (k, q))
          (tree.get version_cmp c.drop_records.new.writes (k, q))
          (c.drop_records.ensures (flat_content flat k).value k q)) flat.bounded;
    }

pub returns-clause-content : goal.returns-clause-content
returns-clause-content c = λ k.
    let flat = c.args.self.now in
    collected_now (flat_content flat k) c.args.safe (λ q. tree.get version_cmp c.drop_records.new.writes (k, q))
    (λ t. tree.get version_cmp c.drop_values.new.values (k, t))
    (c.drop_records.ensures (flat_content flat k).value k) (c.drop_values.ensures.gone k)
    (c.drop_values.ensures.stayed k) (c.drop_values.ensures.fewer k) (whole_at (flat_content flat) flat.whole k)

pub returns-clause-cells : goal.returns-clause-cells
returns-clause-cells c = λ k.
    let flat = c.args.self.now in
    cells_now (flat_content flat k) c.args.safe (λ q. tree.get version_cmp c.drop_records.new.writes (k, q))
    (λ t. tree.get version_cmp c.drop_values.new.values (k, t))
    (c.drop_records.ensures (flat_content flat k).value k) (c.drop_values.ensures.gone k)
    (c.drop_values.ensures.stayed k) (c.drop_values.ensures.fewer k) (whole_at (flat_content flat) flat.whole k)
