use Rattle.std.proofs.Common.{◌≡◌, ℕ, List, ap, sym, subst, ◌∙◌, refl}
use Rattle.std.specs.BTreeMap as tree
use Rattle.std.specs.Ordering.{nat_cmp}
use Rattle.std.specs.Cmp.Lexicographic.{slice_cmp}
use Rattle.tx_cells.specs.Contents.{cells_of}
use Rattle.tx_cells.specs.Afterwards.{put_on}
use Rattle.tx_spelling.specs.Spelt.{version_cmp}
use Rattle.tx_flat.specs.Flats.{flat_content}
use Rattle.tx_cells.proofs.Facts.{whole_at}
use Rattle.tx_cells.proofs.CellsAfter.{cells_put}
use Rattle.tx_cells.proofs.WholeAfter.{whole_put}
use Rattle.tx_flat.proofs.FlatMaps.{Locks, Values, AllWhole, content_by, same_keys, same_versions, whole_on}
use Rattle.tx_flat.proofs.FlatChanges.{either, lock_only, value_here, value_there, value_back, nothing_put, none_apart, same_content}
use Rattle.tx_flat.proofs.FlatCells.put_unnoted.Goals as goal

-- a version of the key that was spelt is one of the body's
of_body : {v : List ℕ × ℕ} {key other : List ℕ} (start : ℕ) → v ≡ (key, start) → key ≡ other → v ≡ (other, start)
of_body start is same = is ∙ ap (λ (k : List ℕ). (k, start)) same

pub invariant_of-self : goal.invariant_of-self
invariant_of-self c =
    let flat = c.args.self.now in
    let b = c.args.body.now in
    let x = flat_content flat b.key in
    let locks = tree.get (slice_cmp nat_cmp) flat.locks in
    let new_locks = tree.get (slice_cmp nat_cmp) c.insert.new.self in
    let writes = tree.get version_cmp flat.writes in
    let values = tree.get version_cmp flat.values in
    let apart = sym c.in_ok-value.ensures.ok ∙ c.in_default.is in
    record {
      whole = either c.insert.result _ _ (AllWhole (content_by new_locks writes values))
          (λ put. whole_on (flat_content flat) (content_by new_locks writes values) b.key (put_on x b c.args.new)
          flat.whole
          (lock_only locks new_locks writes values b.key c.in_ok-spelt.spelt (c.in_ok-spelt.ensures ∙ c.bytes.ensures
          ∙ c.requires.of) values b c.args.new c.in_ok-rec.rec c.in_ok-rec.ensures.ok put.0
          (nothing_put (λ t. values (b.key, t)) b.start b.mutation apart) (λ k other q. refl))
          (λ w. whole_put x b c.args.new w c.requires.can))
          (λ same. subst (λ (l : Locks). AllWhole (content_by l writes values))
          (sym (same_keys flat.locks c.insert.new.self same)) flat.whole)
          c.insert.ensures.updates c.insert.ensures.err;
      bounded = flat.bounded;
    }

pub returns-in_default-clause-content : goal.returns-in_default-clause-content
returns-in_default-clause-content c =
    let flat = c.args.self.now in
    let b = c.args.body.now in
    let locks = tree.get (slice_cmp nat_cmp) flat.locks in
    let values = tree.get version_cmp flat.values in
    let apart = sym c.in_ok-value.ensures.ok ∙ c.in_default.is in
    lock_only locks (tree.get (slice_cmp nat_cmp) c.insert.new.self) (tree.get version_cmp flat.writes) values b.key
    c.in_ok-spelt.spelt (c.in_ok-spelt.ensures ∙ c.bytes.ensures ∙ c.requires.of)
    values b c.args.new c.in_ok-rec.rec c.in_ok-rec.ensures.ok c.in_ok-insert.ensures.updates.0
    (nothing_put (λ t. values (b.key, t)) b.start b.mutation apart) (λ k other q. refl)

pub invariant_of-self-in-Break-branch-9 : goal.invariant_of-self-in-Break-branch-9
invariant_of-self-in-Break-branch-9 c =
    let flat = c.args.self.now in
    record {
      whole = subst
          (λ (f : Values). AllWhole
          (content_by (tree.get (slice_cmp nat_cmp) flat.locks) (tree.get version_cmp flat.writes) f))
          (sym (same_versions flat.values c.insert-2.new.self c.in_err-insert-2.ensures.err)) flat.whole;
      bounded =
          flat.bounded;
    }

pub invariant_of-self-in-Ok : goal.invariant_of-self-in-Ok
invariant_of-self-in-Ok c =
    let flat = c.args.self.now in
    let b = c.args.body.now in
    let x = flat_content flat b.key in
    let locks = tree.get (slice_cmp nat_cmp) flat.locks in
    let new_locks = tree.get (slice_cmp nat_cmp) c.insert-3.new.self in
    let writes = tree.get version_cmp flat.writes in
    let values = tree.get version_cmp flat.values in
    let new_values = tree.get version_cmp c.insert-2.new.self in
    let apart = sym c.in_ok-value.ensures.ok ∙ c.in-Some.is in
    record {
      whole = whole_on (flat_content flat) (content_by new_locks writes new_values) b.key (put_on x b c.args.new)
          flat.whole
          (lock_only locks new_locks writes values b.key c.in_ok-spelt.spelt (c.in_ok-spelt.ensures ∙ c.bytes.ensures
          ∙ c.requires.of) new_values b c.args.new c.in_ok-rec.rec c.in_ok-rec.ensures.ok c.in-Ok.ensures.updates.0
          (value_here values new_values c.in_ok-version.version b.key b.start
          (of_body b.start c.in_ok-version.ensures c.requires.of) b.mutation c.in-Some.value apart
          c.in_ok-insert-2.ensures.updates.0)
          (value_there values new_values c.in_ok-version.version b.key b.start
          (of_body b.start c.in_ok-version.ensures c.requires.of) c.in-Some.value
          c.in_ok-insert-2.ensures.updates.0))
          (λ w. whole_put x b c.args.new w c.requires.can);
      bounded = flat.bounded;
    }

pub returns-in-Ok-clause-content : goal.returns-in-Ok-clause-content
returns-in-Ok-clause-content c =
    let flat = c.args.self.now in
    let b = c.args.body.now in
    let locks = tree.get (slice_cmp nat_cmp) flat.locks in
    let values = tree.get version_cmp flat.values in
    let new_values = tree.get version_cmp c.insert-2.new.self in
    let apart = sym c.in_ok-value.ensures.ok ∙ c.in-Some.is in
    lock_only locks (tree.get (slice_cmp nat_cmp) c.insert-3.new.self) (tree.get version_cmp flat.writes) values b.key
    c.in_ok-spelt.spelt (c.in_ok-spelt.ensures ∙ c.bytes.ensures ∙ c.requires.of)
    new_values b c.args.new c.in_ok-rec.rec c.in_ok-rec.ensures.ok c.in-Ok.ensures.updates.0
    (value_here values new_values c.in_ok-version.version b.key b.start
    (of_body b.start c.in_ok-version.ensures c.requires.of) b.mutation c.in-Some.value apart
    c.in_ok-insert-2.ensures.updates.0)
    (value_there values new_values c.in_ok-version.version b.key b.start
    (of_body b.start c.in_ok-version.ensures c.requires.of) c.in-Some.value c.in_ok-insert-2.ensures.updates.0)

pub returns-in-Ok-clause-cells : goal.returns-in-Ok-clause-cells
returns-in-Ok-clause-cells c =
    ap cells_of (returns-in-Ok-clause-content c).here
    ∙ cells_put (flat_content c.args.self.now c.args.body.now.key) c.args.body.now c.args.new c.requires.can

pub invariant_of-self-in-Err : goal.invariant_of-self-in-Err
invariant_of-self-in-Err c =
    let flat = c.args.self.now in
    let b = c.args.body.now in
    let locks = tree.get (slice_cmp nat_cmp) flat.locks in
    let writes = tree.get version_cmp flat.writes in
    let values = tree.get version_cmp flat.values in
    let none = none_apart (flat_content flat b.key) b c.args.new (whole_at (flat_content flat) flat.whole b.key)
    c.requires.can in
    record {
      whole = subst AllWhole
          (sym (same_content locks (tree.get (slice_cmp nat_cmp) c.insert-3.new.self) writes writes values
          (tree.get version_cmp c.remove.new.self)
          (same_keys flat.locks c.insert-3.new.self c.in-Err.ensures.err) refl
          (value_back values (tree.get version_cmp c.insert-2.new.self) c.in_ok-version.version b.key b.start
          (of_body b.start c.in_ok-version.ensures c.requires.of) (tree.get version_cmp c.remove.new.self)
          c.in_ok-same_version.same_version c.in-Some.value
          (of_body b.start c.in_ok-same_version.ensures c.requires.of) none c.in_ok-insert-2.ensures.updates.0
          c.remove.ensures.updates.0))) flat.whole;
      bounded = flat.bounded;
    }

pub returns-clause-same : goal.returns-clause-same
returns-clause-same c =
    let flat = c.args.self.now in
    let b = c.args.body.now in
    let values = tree.get version_cmp flat.values in
    let none = none_apart (flat_content flat b.key) b c.args.new (whole_at (flat_content flat) flat.whole b.key)
    c.requires.can in
    same_content (tree.get (slice_cmp nat_cmp) flat.locks) _ (tree.get version_cmp flat.writes) _ values _
    (same_keys flat.locks c.insert-3.new.self c.in-Err.ensures.err) refl
    (value_back values (tree.get version_cmp c.insert-2.new.self) c.in_ok-version.version b.key b.start
    (of_body b.start c.in_ok-version.ensures c.requires.of) (tree.get version_cmp c.remove.new.self)
    c.in_ok-same_version.same_version c.in-Some.value
    (of_body b.start c.in_ok-same_version.ensures c.requires.of) none c.in_ok-insert-2.ensures.updates.0
    c.remove.ensures.updates.0)
