use Rattle.std.proofs.Common.{◌<◌, ◌^◌, Some, sym, subst, arith}
use Rattle.std.specs.BTreeMap as tree
use Rattle.std.specs.Ordering.{nat_cmp}
use Rattle.std.specs.Cmp.Lexicographic.{slice_cmp}
use Rattle.tx_plan.specs.declared.key_change.KeyChange.TheVariants as change
use Rattle.tx_cells.specs.Afterwards.{after}
use Rattle.tx_flat.specs.Ceilings.{ceiling_of}
use Rattle.tx_spelling.specs.Spelt.{version_cmp}
use Rattle.tx_flat.specs.Flats.{flat_content}
use Rattle.tx_cells.proofs.WholeAfter.{whole_after}
use Rattle.tx_flat.proofs.FlatMaps.{Writes, AllWhole, content_by, same_versions, whole_on}
use Rattle.tx_flat.proofs.FlatChanges.{VersionChanged, committed}
use Rattle.tx_flat.proofs.FlatBounds.{AllBelow, below_same, below_put}
use Rattle.tx_flat.proofs.FlatCells.commit.Goals as goal

pub invariant_of-self : goal.invariant_of-self
invariant_of-self c =
    let flat = c.args.self.now in
    let same = same_versions flat.writes c.insert.new.self c.in_err-insert.ensures.err in
    record {
      whole = subst (λ (w :
          Writes). AllWhole (content_by (tree.get (slice_cmp nat_cmp) flat.locks) w (tree.get version_cmp flat.values)))
          (sym same) flat.whole;
      bounded = subst (AllBelow (ceiling_of c.raise.new.self)) (sym same)
          (below_same (tree.get version_cmp flat.writes) (ceiling_of flat.ceilings) (ceiling_of c.raise.new.self)
          c.raise.ensures.kept flat.bounded);
    }

pub invariant_of-self-2 : goal.invariant_of-self-2
invariant_of-self-2 c =
    let flat = c.args.self.now in
    let key = c.args.key.now in
    let made = change.Commit c.args.commit c.args.overlapped_rollback in
    let locks = tree.get (slice_cmp nat_cmp) flat.locks in
    let writes = tree.get version_cmp flat.writes in
    let values = tree.get version_cmp flat.values in
    let new_locks = tree.get (slice_cmp nat_cmp) c.remove.new.self in
    let new_writes = tree.get version_cmp c.insert.new.self in
    let x = flat_content flat key in
    let fits : c.args.commit < 2 ^ 64 = omega (arith, c.get-ticks.ensures, c.get-ticks.type_inv) in
    record {
      whole = whole_on (flat_content flat) (content_by new_locks new_writes values) key (after x made) flat.whole
          (committed locks new_locks writes values key c.bytes-spelt.result.now c.bytes-spelt.ensures new_writes
          c.in_ok-version.version c.args.commit c.args.overlapped_rollback c.in-Some.bytes.now
          c.in_ok-rec-in-Some.rec
          c.in_ok-version.ensures c.in-Some.ensures.value c.in_ok-rec-in-Some.ensures c.in_ok-insert.ensures.updates.0
          c.remove.ensures.updates.0)
          (λ w. whole_after x made w c.requires fits);
      bounded = below_put writes new_writes key (ceiling_of flat.ceilings) (ceiling_of c.raise.new.self)
          c.raise.ensures.kept c.args.commit c.in_ok-rec-in-Some.rec c.raise.ensures.above
          (subst (λ v. VersionChanged writes new_writes v (Some c.in_ok-rec-in-Some.rec)) c.in_ok-version.ensures
          c.in_ok-insert.ensures.updates.0) flat.bounded;
    }

pub returns-clause-content : goal.returns-clause-content
returns-clause-content c =
    let flat = c.args.self.now in
    committed (tree.get (slice_cmp nat_cmp) flat.locks) (tree.get (slice_cmp nat_cmp) c.remove.new.self)
    (tree.get version_cmp flat.writes) (tree.get version_cmp flat.values) c.args.key.now
    c.bytes-spelt.result.now c.bytes-spelt.ensures (tree.get version_cmp c.insert.new.self) c.in_ok-version.version
    c.args.commit c.args.overlapped_rollback c.in-Some.bytes.now c.in_ok-rec-in-Some.rec
    c.in_ok-version.ensures c.in-Some.ensures.value c.in_ok-rec-in-Some.ensures c.in_ok-insert.ensures.updates.0
    c.remove.ensures.updates.0
