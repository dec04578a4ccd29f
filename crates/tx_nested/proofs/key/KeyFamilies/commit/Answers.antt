use Rattle.std.proofs.Common.{◌≡◌, ◌<◌, ◌^◌, None, ap, sym, subst, ◌∙◌, ℕ, Option, arith}
use Rattle.std.specs.BTreeMap as tree
use Rattle.std.specs.Ordering.{nat_cmp}
use Rattle.tx_types.specs.declared.lock.LockRec.{LockRec}
use Rattle.tx_types.specs.declared.write.WriteRec.{WriteRec}
use Rattle.tx_types.specs.declared.write.WriteRec.TheVariants.{Commit}
use Rattle.tx_plan.specs.declared.key_change.KeyChange.TheVariants as change
use Rattle.tx_cells.specs.Contents.{IsWhole}
use Rattle.tx_cells.specs.Afterwards.{after, with_record, commit_of}
use Rattle.tx_nested.specs.Nested.{held}
use Rattle.tx_cells.proofs.Facts.{stays_whole}
use Rattle.tx_cells.proofs.Maps.{same_maps, with_at}
use Rattle.tx_nested.proofs.NestedMaps.{on_key, same_gets}
use Rattle.tx_cells.proofs.WholeAfter.{whole_after, on_same}
use Rattle.tx_nested.proofs.key.KeyFamilies.commit.Goals as goal

pub invariant_of-self : goal.invariant_of-self
invariant_of-self c =
    let key = c.args.self.now in
    record {
      whole = subst (λ (f : ℕ → Option WriteRec). ∥ IsWhole (on_key key.lock f (tree.get nat_cmp key.values)) ∥₁)
          (sym (same_gets key.writes c.insert.new.self c.in_err-insert.ensures.same)) key.whole;
    }

pub returns-clause-ok : goal.returns-clause-ok
returns-clause-ok c =
    let x = held c.args.self.now in
    let rec = c.in_ok-rec.ensures.ok in
    let write : tree.get nat_cmp c.insert.new.self
    ≡ with_record x.write c.args.commit (Commit (commit_of c.in-Some.lock c.args.overlapped_rollback)) =
    same_maps (λ q. with_at x.write (tree.get nat_cmp c.insert.new.self) c.args.commit _ c.in_ok-insert.ensures.updates
    q ∙ ap (λ r. with_record x.write c.args.commit r q) rec) in
    ap (λ (f : ℕ → Option WriteRec). on_key None f x.value) write
    ∙ sym (on_same x c.in-Some.lock
    (λ (r : LockRec). on_key None
    (with_record x.write c.args.commit (Commit (commit_of r c.args.overlapped_rollback))) x.value) c.in-Some.is)

pub invariant_of-self-2 : goal.invariant_of-self-2
invariant_of-self-2 c =
    let x = held c.args.self.now in
    let made = change.Commit c.args.commit c.args.overlapped_rollback in
    let rec = c.in_ok-rec.ensures.ok in
    let write : tree.get nat_cmp c.insert.new.self
    ≡ with_record x.write c.args.commit (Commit (commit_of c.in-Some.lock c.args.overlapped_rollback)) =
    same_maps (λ q. with_at x.write (tree.get nat_cmp c.insert.new.self) c.args.commit _ c.in_ok-insert.ensures.updates
    q ∙ ap (λ r. with_record x.write c.args.commit r q) rec) in
    let fits : c.args.commit < 2 ^ 64 = omega (arith, c.get-ticks.ensures, c.get-ticks.type_inv) in
    record {
      whole = stays_whole x (after x made) _ c.args.self.now.whole (λ w. whole_after x made w c.requires fits)
          (ap (λ (f : ℕ → Option WriteRec). on_key None f x.value) write
          ∙ sym (on_same x c.in-Some.lock
          (λ (r : LockRec). on_key None
          (with_record x.write c.args.commit (Commit (commit_of r c.args.overlapped_rollback))) x.value)
          c.in-Some.is));
    }
