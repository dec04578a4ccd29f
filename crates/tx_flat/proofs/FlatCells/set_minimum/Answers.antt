use Rattle.std.proofs.Common.{◌≡◌, Some, refl, sym, ap, subst}
use Rattle.std.specs.BTreeMap as tree
use Rattle.std.specs.Ordering.{nat_cmp}
use Rattle.std.specs.Cmp.Lexicographic.{slice_cmp}
use Rattle.tx_types.specs.declared.lock.LockRec.{LockRec}
use Rattle.tx_plan.specs.declared.key_change.KeyChange.TheVariants as change
use Rattle.tx_cells.specs.Afterwards.{after, with_min}
use Rattle.tx_spelling.specs.Spelt.{version_cmp}
use Rattle.tx_flat.specs.Flats.{flat_content}
use Rattle.tx_cells.proofs.WholeAfter.{whole_after}
use Rattle.tx_flat.proofs.FlatMaps.{Locks, AllWhole, content_by, same_key, whole_on}
use Rattle.tx_flat.proofs.FlatChanges.{anyway, relocked}
use Rattle.tx_flat.proofs.FlatCells.set_minimum.Goals as goal

pub invariant_of-self-in-Break-1 : goal.invariant_of-self-in-Break-1
invariant_of-self-in-Break-1 c =
    let flat = c.args.self.now in
    let lock = c.in-Some.lock.now in
    let locks = tree.get (slice_cmp nat_cmp) flat.locks in
    let new_locks = tree.get (slice_cmp nat_cmp) (c.get_mut.follows.lender lock) in
    let here : locks c.bytes.result.now ≡ Some lock = sym c.in-Some.ensures.value in
    record {
      whole = subst (λ (l : Locks). AllWhole (content_by l (tree.get version_cmp flat.writes)
          (tree.get version_cmp flat.values))) (sym (same_key locks new_locks c.bytes.result.now (Some lock)
          ((c.get_mut.follows.holds lock).3 (rw here refl)).0 here)) flat.whole;
      bounded = flat.bounded;
    }

pub returns-in_err-rec-clause-same : goal.returns-in_err-rec-clause-same
returns-in_err-rec-clause-same c =
    let flat = c.args.self.now in
    let lock = c.in-Some.lock.now in
    let locks = tree.get (slice_cmp nat_cmp) flat.locks in
    let new_locks = tree.get (slice_cmp nat_cmp) (c.get_mut.follows.lender lock) in
    let here : locks c.bytes.result.now ≡ Some lock = sym c.in-Some.ensures.value in
    anyway c.from_residual.result _ (ap (λ (l : Locks). content_by l (tree.get version_cmp flat.writes)
    (tree.get version_cmp flat.values)) (same_key locks new_locks c.bytes.result.now (Some lock)
    ((c.get_mut.follows.holds lock).3 (rw here refl)).0 here))

pub invariant_of-self-2 : goal.invariant_of-self-2
invariant_of-self-2 c =
    let flat = c.args.self.now in
    let key = c.args.key.now in
    let rec = c.in_ok-rec.rec in
    let locks = tree.get (slice_cmp nat_cmp) flat.locks in
    let new_locks = tree.get (slice_cmp nat_cmp) (c.get_mut.follows.lender rec) in
    let writes = tree.get version_cmp flat.writes in
    let values = tree.get version_cmp flat.values in
    let here : locks c.bytes.result.now ≡ Some c.in-Some.lock.now = sym c.in-Some.ensures.value in
    let x = flat_content flat key in
    record {
      whole = whole_on (flat_content flat) (content_by new_locks writes values) key
          (after x (change.Minimum c.args.min)) flat.whole
          (relocked locks new_locks writes values key c.bytes.result.now c.bytes.ensures c.in-Some.lock.now rec
          (λ (r : LockRec). with_min r c.args.min) c.in-Some.ensures.value c.in_ok-rec.ensures.ok
          ((c.get_mut.follows.holds rec).3 (rw here refl)).0)
          (λ w. whole_after x (change.Minimum c.args.min) w c.requires tt);
      bounded = flat.bounded;
    }

pub returns-clause-content : goal.returns-clause-content
returns-clause-content c =
    let flat = c.args.self.now in
    let rec = c.in_ok-rec.rec in
    let locks = tree.get (slice_cmp nat_cmp) flat.locks in
    let here : locks c.bytes.result.now ≡ Some c.in-Some.lock.now = sym c.in-Some.ensures.value in
    relocked locks (tree.get (slice_cmp nat_cmp) (c.get_mut.follows.lender rec)) (tree.get version_cmp flat.writes)
    (tree.get version_cmp flat.values) c.args.key.now c.bytes.result.now c.bytes.ensures c.in-Some.lock.now rec
    (λ (r : LockRec). with_min r c.args.min) c.in-Some.ensures.value c.in_ok-rec.ensures.ok
    ((c.get_mut.follows.holds rec).3 (rw here refl)).0
