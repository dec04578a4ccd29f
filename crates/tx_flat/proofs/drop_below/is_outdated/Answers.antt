use Rattle.std.proofs.Common.{◌≡◌, inl, inr, ◌==◌, ◌&&◌, not, ℕ, List, true, false, ap, sym, subst, refl, ◌∙◌}
use Rattle.std.specs.BTreeMap as tree
use Rattle.std.proofs.lemmas.Bool.{cases_lt}
use Rattle.tx_plan.specs.declared.key_records.RecordKind.{RecordKind}
use Rattle.tx_cells.specs.Heads.{is_rollback, start_in}
use Rattle.tx_spelling.specs.Spelt.{version_cmp}
use Rattle.tx_flat.proofs.OutdatedValues.{climb_ends, climb_passes, climb_found, climb_commit, climb_other}
use Rattle.tx_flat.proofs.drop_below.is_outdated.Goals as goal
use Rattle.tx_flat.proofs.drop_below.is_outdated.Goals.{else-committed-via-then-committed+else-kind, else-committed-via-else-committed}

pub returns-in_default : goal.returns-in_default
returns-in_default c =
    let key = c.records.invariant.key in
    let write = λ (q : ℕ). tree.get version_cmp c.args.writes.now (c.args.version.now.0, q) in (
      λ yes. cc yes,
      λ o. absurd (climb_ends write c.args.version.now.1 c.records.last.now.1 c.records.committed
          c.records.invariant.climb
          (λ q lt. ap (λ (k : List ℕ). tree.get version_cmp c.args.writes.now (k, q)) (sym key)
          ∙ c.in_default.ensures.none q lt) c.args.safe o),
    )

pub returns-then-is_past : goal.returns-then-is_past
returns-then-is_past c =
    let key = c.records.invariant.key in
    let write = λ (q : ℕ). tree.get version_cmp c.args.writes.now (c.args.version.now.0, q) in
    let above = c.in-Some.above.now in
    let found = c.in-Some.ensures.found in (
      λ yes. cc yes,
      λ o. absurd (climb_passes write c.args.version.now.1 c.records.last.now.1 c.records.committed
          c.records.invariant.climb above.1 c.in-Some.rec.now found.1
          (ap (λ (k : List ℕ). tree.get version_cmp c.args.writes.now (k, above.1)) (sym (found.0 ∙ key)) ∙ found.2)
          (λ q lt up. ap (λ (k : List ℕ). tree.get version_cmp c.args.writes.now (k, q)) (sym key)
          ∙ c.in-Some.ensures.nearest q lt up) c.args.safe (c.if-is_past.ensures.0 refl) o),
    )

pub returns-then-kind : goal.returns-then-kind
returns-then-kind c =
    let key = c.records.invariant.key in
    let write = λ (q : ℕ). tree.get version_cmp c.args.writes.now (c.args.version.now.0, q) in
    let above = c.in-Some.above.now in
    let found = c.in-Some.ensures.found in (
      λ yes. climb_found write c.args.version.now.1 c.records.last.now.1 c.records.committed c.records.invariant.climb
          above.1 c.in-Some.rec.now found.1
          (ap (λ (k : List ℕ). tree.get version_cmp c.args.writes.now (k, above.1)) (sym (found.0 ∙ key)) ∙ found.2)
          (λ q lt up. ap (λ (k : List ℕ). tree.get version_cmp c.args.writes.now (k, q)) (sym key)
          ∙ c.in-Some.ensures.nearest q lt up) c.args.safe
          (elim (cases_lt c.args.safe above.1) [ inl lt ↦ cc (c.if-is_past.ensures.1 lt) | inr le ↦ le ])
          c.if-committed.true (ap (λ (k : RecordKind). k.is_seen) (sym c.kind_of-kind.ensures) ∙ c.if-kind.true),
      λ o. refl,
    )

pub records-preserved-then-commits : goal.records-preserved-then-commits
records-preserved-then-commits c =
    let key = c.records.invariant.key in
    let write = λ (q : ℕ). tree.get version_cmp c.args.writes.now (c.args.version.now.0, q) in
    let above = c.in-Some.above.now in
    let found = c.in-Some.ensures.found in
    record {
      start = c.records.invariant.start;
      key = found.0 ∙ key;
      climb = climb_commit write c.args.version.now.1 c.records.last.now.1 c.records.committed c.records.invariant.climb
          above.1 c.in-Some.rec.now found.1
          (ap (λ (k : List ℕ). tree.get version_cmp c.args.writes.now (k, above.1)) (sym (found.0 ∙ key)) ∙ found.2)
          (λ q lt up. ap (λ (k : List ℕ). tree.get version_cmp c.args.writes.now (k, q)) (sym key)
          ∙ c.in-Some.ensures.nearest q lt up)
          (λ yes seen. elim c.else-committed.branch [
            | else-committed-via-then-committed+else-kind w ↦
                (let is = ap (λ (k : RecordKind). k.is_seen) c.kind_of-kind.ensures in let off = w.if-kind.false in
                cc (is, off, seen))
            | else-committed-via-else-committed w ↦ (let off = w.if-committed.false in cc (off, yes))
          ])
          (let on = c.if-commits.true in let is = c.commits.ensures in let start = c.records.invariant.start in
          subst (λ t. (not (is_rollback c.in-Some.rec.now) && (start_in c.in-Some.rec.now == t))
          ≡ true) start (sym is ∙ on));
    }

pub records-preserved : goal.records-preserved
records-preserved c =
    let key = c.records.invariant.key in
    let write = λ (q : ℕ). tree.get version_cmp c.args.writes.now (c.args.version.now.0, q) in
    let above = c.in-Some.above.now in
    let found = c.in-Some.ensures.found in
    record {
      start = c.records.invariant.start;
      key = found.0 ∙ key;
      climb = climb_other write c.args.version.now.1 c.records.last.now.1 c.records.committed c.records.invariant.climb
          above.1 c.in-Some.rec.now found.1
          (ap (λ (k : List ℕ). tree.get version_cmp c.args.writes.now (k, above.1)) (sym (found.0 ∙ key)) ∙ found.2)
          (λ q lt up. ap (λ (k : List ℕ). tree.get version_cmp c.args.writes.now (k, q)) (sym key)
          ∙ c.in-Some.ensures.nearest q lt up)
          (λ yes seen. elim c.else-committed.branch [
            | else-committed-via-then-committed+else-kind w ↦
                (let is = ap (λ (k : RecordKind). k.is_seen) c.kind_of-kind.ensures in let off = w.if-kind.false in
                cc (is, off, seen))
            | else-committed-via-else-committed w ↦ (let off = w.if-committed.false in cc (off, yes))
          ])
          (let off = c.if-commits.false in let is = c.commits.ensures in let start = c.records.invariant.start in
          subst (λ t. (not (is_rollback c.in-Some.rec.now) && (start_in c.in-Some.rec.now == t))
          ≡ false) start (sym is ∙ off));
    }
