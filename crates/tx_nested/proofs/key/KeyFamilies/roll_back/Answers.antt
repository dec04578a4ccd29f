use Rattle.std.proofs.Common.{◌≡◌, ◌<◌, ◌^◌, true, false, Bool, None, ap, sym, subst, ◌∙◌, ℕ, Option, arith}
use Rattle.std.specs.BTreeMap as tree
use Rattle.std.specs.Ordering.{nat_cmp}
use Rattle.tx_types.specs.declared.value.Value.{Value}
use Rattle.tx_types.specs.declared.write.WriteRec.{WriteRec}
use Rattle.tx_plan.specs.declared.key_change.KeyChange.TheVariants as change
use Rattle.tx_cells.specs.Contents.{IsWhole}
use Rattle.tx_cells.specs.Afterwards.{after, after_left, without_value}
use Rattle.tx_nested.specs.Nested.{held}
use Rattle.tx_cells.proofs.Facts.{stays_whole}
use Rattle.tx_cells.proofs.Maps.{same_maps, without_at}
use Rattle.tx_nested.proofs.NestedMaps.{on_key, same_gets}
use Rattle.tx_cells.proofs.WholeAfter.{whole_after}
use Rattle.tx_nested.proofs.key.KeyFamilies.roll_back.Goals as goal

pub invariant_of-self : goal.invariant_of-self
invariant_of-self c =
    let key = c.args.self.now in
    record {
      whole = subst (λ (f : ℕ → Option WriteRec). ∥ IsWhole (on_key key.lock f (tree.get nat_cmp key.values)) ∥₁)
          (sym (same_gets key.writes c.leave.new.writes c.in_err-leave.ensures.same)) key.whole;
    }

pub invariant_of-self-then-not-removes_lock : goal.invariant_of-self-then-not-removes_lock
invariant_of-self-then-not-removes_lock c =
    let x = held c.args.self.now in
    let made = change.RollBack c.args.start c.args.removes_lock c.args.left in
    let stays : c.args.removes_lock ≡ false = cc (c.if-not-removes_lock.true) in
    let fits : c.args.start < 2 ^ 64 = omega (arith, c.get-ticks.ensures, c.get-ticks.type_inv) in
    record {
      whole = stays_whole x (after x made) _ c.args.self.now.whole (λ w. whole_after x made w c.requires fits)
          (ap (λ (f : ℕ → Option WriteRec). on_key x.lock f x.value) (same_maps c.in_ok-leave.ensures.ok)
          ∙ ap (λ (b : Bool). after x (change.RollBack c.args.start b c.args.left)) (sym stays));
    }

pub invariant_of-self-2 : goal.invariant_of-self-2
invariant_of-self-2 c =
    let x = held c.args.self.now in
    let made = change.RollBack c.args.start c.args.removes_lock c.args.left in
    let goes : c.args.removes_lock ≡ true = cc (c.if-not-removes_lock.false) in
    let fits : c.args.start < 2 ^ 64 = omega (arith, c.get-ticks.ensures, c.get-ticks.type_inv) in
    let value : tree.get nat_cmp c.remove.new.self ≡ without_value x.value c.args.start =
    same_maps (without_at x.value (tree.get nat_cmp c.remove.new.self) c.args.start c.remove.ensures.updates.0) in
    record {
      whole = stays_whole x (after x made) _ c.args.self.now.whole (λ w. whole_after x made w c.requires fits)
          (ap (λ (f : ℕ → Option WriteRec). on_key None f (tree.get nat_cmp c.remove.new.self))
          (same_maps c.in_ok-leave.ensures.ok)
          ∙ ap (λ (f : ℕ → Option Value). on_key None (after_left x.write c.args.start c.args.left) f) value
          ∙ ap (λ (b : Bool). after x (change.RollBack c.args.start b c.args.left)) (sym goes));
    }

pub returns-clause-ok : goal.returns-clause-ok
returns-clause-ok c =
    let x = held c.args.self.now in
    let goes : c.args.removes_lock ≡ true = cc (c.if-not-removes_lock.false) in
    let value : tree.get nat_cmp c.remove.new.self ≡ without_value x.value c.args.start =
    same_maps (without_at x.value (tree.get nat_cmp c.remove.new.self) c.args.start c.remove.ensures.updates.0) in
    ap (λ (f : ℕ → Option WriteRec). on_key None f (tree.get nat_cmp c.remove.new.self))
    (same_maps c.in_ok-leave.ensures.ok)
    ∙ ap (λ (f : ℕ → Option Value). on_key None (after_left x.write c.args.start c.args.left) f) value
    ∙ ap (λ (b : Bool). after x (change.RollBack c.args.start b c.args.left)) (sym goes)
