use Rattle.std.proofs.Common.{◌≡◌, ◌<◌, ◌^◌, Bool, true, false, sym, subst, arith}
use Rattle.std.specs.BTreeMap as tree
use Rattle.std.specs.Ordering.{nat_cmp}
use Rattle.std.specs.Cmp.Lexicographic.{slice_cmp}
use Rattle.tx_plan.specs.declared.key_change.KeyChange.TheVariants as change
use Rattle.tx_cells.specs.Afterwards.{OnlyOn, after}
use Rattle.tx_flat.specs.Ceilings.{ceiling_of}
use Rattle.tx_spelling.specs.Spelt.{version_cmp}
use Rattle.tx_flat.specs.Flats.{flat_content}
use Rattle.tx_cells.proofs.WholeAfter.{whole_after}
use Rattle.tx_flat.proofs.FlatMaps.{Writes, AllWhole, content_by, same_versions, whole_on}
use Rattle.tx_flat.proofs.FlatChanges.{either, rolled_back, left_only}
use Rattle.tx_flat.proofs.FlatBounds.{AllBelow, below_same, below_left}
use Rattle.tx_flat.proofs.FlatCells.roll_back.Goals as goal

pub invariant_of-self : goal.invariant_of-self
invariant_of-self c =
    let flat = c.args.self.now in
    let key = c.args.key.now in
    let locks = tree.get (slice_cmp nat_cmp) flat.locks in
    let writes = tree.get version_cmp flat.writes in
    let values = tree.get version_cmp flat.values in
    let new_writes = tree.get version_cmp c.leave.new.writes in
    let x = flat_content flat key in
    let made = change.RollBack c.args.start c.args.removes_lock c.args.left in
    let stays : c.args.removes_lock ≡ false = cc (c.if-not-removes_lock.true) in
    let fits : c.args.start < 2 ^ 64 = omega (arith, c.get-ticks.ensures, c.get-ticks.type_inv) in
    record {
      whole = either c.leave.result _ _ (AllWhole (content_by locks new_writes values))
          (λ ok. whole_on (flat_content flat) (content_by locks new_writes values) key (after x made) flat.whole
          (subst (λ (b : Bool). OnlyOn key (after x (change.RollBack c.args.start b c.args.left)) (flat_content flat)
          (content_by locks new_writes values)) (sym stays)
          (left_only locks writes new_writes values key c.args.start c.args.left ok c.leave.ensures.others))
          (λ w. whole_after x made w c.requires fits))
          (λ same. subst (λ (w : Writes). AllWhole (content_by locks w values))
          (sym (same_versions flat.writes c.leave.new.writes same)) flat.whole)
          c.leave.ensures.ok c.leave.ensures.same;
      bounded = either c.leave.result _ _ (AllBelow (ceiling_of c.raise.new.self) new_writes)
          (λ ok. below_left writes new_writes key (ceiling_of flat.ceilings) (ceiling_of c.raise.new.self)
          c.raise.ensures.kept c.args.start c.args.left c.raise.ensures.above ok c.leave.ensures.others
          flat.bounded)
          (λ same. subst (AllBelow (ceiling_of c.raise.new.self))
          (sym (same_versions flat.writes c.leave.new.writes same))
          (below_same writes (ceiling_of flat.ceilings) (ceiling_of c.raise.new.self) c.raise.ensures.kept
          flat.bounded))
          c.leave.ensures.ok c.leave.ensures.same;
    }

pub invariant_of-self-in-Break-1 : goal.invariant_of-self-in-Break-1
invariant_of-self-in-Break-1 c =
    let flat = c.args.self.now in
    record {
      whole = flat.whole;
      bounded =
          below_same (tree.get version_cmp flat.writes) (ceiling_of flat.ceilings) (ceiling_of c.raise.new.self)
          c.raise.ensures.kept flat.bounded;
    }

pub invariant_of-self-in-Break-branch-2 : goal.invariant_of-self-in-Break-branch-2
invariant_of-self-in-Break-branch-2 c =
    let flat = c.args.self.now in
    let same = same_versions flat.writes c.leave-2.new.writes c.in_err-leave.ensures.same in
    record {
      whole = subst (λ (w :
          Writes). AllWhole (content_by (tree.get (slice_cmp nat_cmp) flat.locks) w (tree.get version_cmp flat.values)))
          (sym same) flat.whole;
      bounded = subst (AllBelow (ceiling_of c.raise.new.self)) (sym same)
          (below_same (tree.get version_cmp flat.writes) (ceiling_of flat.ceilings) (ceiling_of c.raise.new.self)
          c.raise.ensures.kept flat.bounded);
    }

pub invariant_of-self-2 : goal.invariant_of-self-2
invariant_of-self-2 c =
    let flat = c.args.self.now in
    let key = c.args.key.now in
    let locks = tree.get (slice_cmp nat_cmp) flat.locks in
    let writes = tree.get version_cmp flat.writes in
    let values = tree.get version_cmp flat.values in
    let new_locks = tree.get (slice_cmp nat_cmp) c.remove.new.self in
    let new_writes = tree.get version_cmp c.leave-2.new.writes in
    let new_values = tree.get version_cmp c.remove-2.new.self in
    let x = flat_content flat key in
    let made = change.RollBack c.args.start c.args.removes_lock c.args.left in
    let goes : c.args.removes_lock ≡ true = cc (c.if-not-removes_lock.false) in
    let fits : c.args.start < 2 ^ 64 = omega (arith, c.get-ticks.ensures, c.get-ticks.type_inv) in
    record {
      whole = whole_on (flat_content flat) (content_by new_locks new_writes new_values) key (after x made) flat.whole
          (subst (λ (b : Bool). OnlyOn key (after x (change.RollBack c.args.start b c.args.left)) (flat_content flat)
          (content_by new_locks new_writes new_values)) (sym goes)
          (rolled_back locks new_locks writes values key c.bytes-spelt.result.now c.bytes-spelt.ensures new_writes
          new_values c.in_ok-version.version c.args.start c.args.left c.in_ok-version.ensures
          c.in_ok-leave.ensures.ok c.leave-2.ensures.others c.remove.ensures.updates.0 c.remove-2.ensures.updates.0))
          (λ w. whole_after x made w c.requires fits);
      bounded = below_left writes new_writes key (ceiling_of flat.ceilings) (ceiling_of c.raise.new.self)
          c.raise.ensures.kept c.args.start c.args.left c.raise.ensures.above c.in_ok-leave.ensures.ok
          c.leave-2.ensures.others flat.bounded;
    }

pub returns-clause-content : goal.returns-clause-content
returns-clause-content c =
    let flat = c.args.self.now in
    let key = c.args.key.now in
    let goes : c.args.removes_lock ≡ true = cc (c.if-not-removes_lock.false) in
    let new_locks = tree.get (slice_cmp nat_cmp) c.remove.new.self in
    let new_writes = tree.get version_cmp c.leave-2.new.writes in
    let new_values = tree.get version_cmp c.remove-2.new.self in
    subst (λ (b : Bool). OnlyOn key (after (flat_content flat key) (change.RollBack c.args.start b c.args.left))
    (flat_content flat) (content_by new_locks new_writes new_values)) (sym goes)
    (rolled_back (tree.get (slice_cmp nat_cmp) flat.locks) new_locks (tree.get version_cmp flat.writes)
    (tree.get version_cmp flat.values) key c.bytes-spelt.result.now c.bytes-spelt.ensures
    new_writes new_values c.in_ok-version.version c.args.start c.args.left c.in_ok-version.ensures
    c.in_ok-leave.ensures.ok c.leave-2.ensures.others c.remove.ensures.updates.0 c.remove-2.ensures.updates.0)
