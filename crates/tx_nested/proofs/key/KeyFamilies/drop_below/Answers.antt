use Rattle.std.proofs.Common.{Option, ℕ, sym, ap, subst, ◌∙◌}
use Rattle.std.specs.BTreeMap as tree
use Rattle.std.specs.Ordering.{nat_cmp}
use Rattle.tx_types.specs.declared.write.WriteRec.{WriteRec}
use Rattle.tx_cells.specs.Contents.{OnKey, cells_of}
use Rattle.tx_cells.specs.Afterwards.{Collected}
use Rattle.tx_nested.specs.Indexes.{goes_below}
use Rattle.tx_nested.specs.Nested.{held}
use Rattle.tx_cells.proofs.Facts.{stays_whole}
use Rattle.tx_cells.proofs.Maps.{same_maps}
use Rattle.tx_nested.proofs.NestedMaps.{on_key}
use Rattle.tx_cells.proofs.Drops.{Left, whole_left, collected_left, cells_left, stays_of}
use Rattle.tx_nested.proofs.Drops.{tells_left}
use Rattle.tx_nested.proofs.key.KeyFamilies.drop_below.Goals as goal

pub invariant_of-self : goal.invariant_of-self
invariant_of-self c =
    let x = held c.args.self.now in
    let safe = c.args.safe in
    let stay = c.collection-kept.result.kept in
    let value = tree.get nat_cmp c.drop_records.new.values in
    let is = ap (λ (f : ℕ → Option WriteRec). on_key x.lock f value) (same_maps c.drop_records.ensures.writes) in
    record {
      whole = stays_whole x (Left x (goes_below safe stay) value) _ c.args.self.now.whole
          (λ w. whole_left x (goes_below safe stay) value w c.drop_records.ensures.values safe
          (tells_left x safe stay c.collection-kept.ensures.kept)) is;
    }

pub returns-clause-content : goal.returns-clause-content
returns-clause-content c =
    let x = held c.args.self.now in
    let safe = c.args.safe in
    let stay = c.collection-kept.result.kept in
    let value = tree.get nat_cmp c.drop_records.new.values in
    let is = ap (λ (f : ℕ → Option WriteRec). on_key x.lock f value) (same_maps c.drop_records.ensures.writes) in
    subst (λ (y : OnKey). Collected safe x y) (sym is)
    (collected_left x (goes_below safe stay) value c.args.self.now.whole c.drop_records.ensures.values safe
    (tells_left x safe stay c.collection-kept.ensures.kept))

pub returns-clause-cells : goal.returns-clause-cells
returns-clause-cells c =
    let x = held c.args.self.now in
    let safe = c.args.safe in
    let stay = c.collection-kept.result.kept in
    let value = tree.get nat_cmp c.drop_records.new.values in
    let is = ap (λ (f : ℕ → Option WriteRec). on_key x.lock f value) (same_maps c.drop_records.ensures.writes) in
    ap cells_of is ∙ cells_left x (goes_below safe stay) value
    (stays_of x (goes_below safe stay) value c.args.self.now.whole c.drop_records.ensures.values) safe
    (tells_left x safe stay c.collection-kept.ensures.kept)
