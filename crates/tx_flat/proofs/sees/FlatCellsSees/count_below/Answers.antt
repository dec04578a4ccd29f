use Rattle.std.proofs.Common.{◌≡◌, ℕ, ◌+◌, true, false, List, Some, None, refl, sym, subst, ◌∙◌}
use Rattle.std.specs.BTreeMap as tree
use Rattle.std.specs.Prelude.{option_map}
use Rattle.std.specs.Ordering.{nat_cmp}
use Rattle.std.specs.Cmp.Lexicographic.{slice_cmp}
use Rattle.tx_cells.specs.Contents.{lock_of}
use Rattle.tx_flat.specs.Flats.{flat_content}
use Rattle.tx_spelling.specs.Spelt.{version_cmp}
use Rattle.tx_cells.proofs.Facts.{whole_at}
use Rattle.tx_cells.proofs.RecordKinds.{kind_is, apart_is}
use Rattle.tx_flat.proofs.Sieves.{AreLeft, Goes, keeps_at, says, knows_on, left_rest, left_all, knows_none, first_is}
use Rattle.tx_flat.proofs.SieveCounts.{Counted, count_starts, count_stays, count_long, count_short, count_ends}
use Rattle.tx_flat.proofs.sees.FlatCellsSees.count_below.Goals as goal

pub records-init : goal.records-init
records-init c =
    let flat = c.args.self.now in
    let W = tree.get version_cmp flat.writes in
    let V = λ (k : List ℕ) (t : ℕ). tree.get version_cmp flat.values (k, t) in
    let L = λ (k : List ℕ). option_map (lock_of (V k)) (tree.get (slice_cmp nat_cmp) flat.locks k) in
    record {
      pass = (
        None,
        knows_none W V c.args.safe c.new-sieve.result c.new-sieve.ensures.0 c.new-sieve.ensures.2,
        subst (λ es. AreLeft W None es) (sym c.iter-writes.ensures.rest)
            (left_all W flat.writes.entries c.iter-writes.ensures.ordered (λ u. refl)),
      );
      counted = subst (λ es. Counted L W V c.args.safe es 0 0) (sym c.iter-writes.ensures.rest)
          (count_starts L W V c.args.safe flat.writes.entries (λ u. refl));
    }

pub records-preserved-then-keeps : goal.records-preserved-then-keeps
records-preserved-then-keeps c =
    let flat = c.args.self.now in
    let W = tree.get version_cmp flat.writes in
    let V = λ (k : List ℕ) (t : ℕ). tree.get version_cmp flat.values (k, t) in
    let L = λ (k : List ℕ). option_map (lock_of (V k)) (tree.get (slice_cmp nat_cmp) flat.locks k) in
    let safe = c.args.safe in
    let pass = c.records.invariant.pass in
    let x = c.in-Some.version.now in
    let rec = c.in-Some.rec.now in
    let es = c.next.new.self in
    let are = subst (λ ys. AreLeft W pass.0 ys) c.in-Some.ensures.steps pass.2 in
    let so = subst (λ ys. Counted L W V safe ys c.records.records c.records.values) c.in-Some.ensures.steps
    c.records.invariant.counted in
    let goes : Goes W V safe c.records.sieve c.keeps.new.self x rec =
    record { followed = c.keeps.ensures.followed; key = c.keeps.ensures.key; same = c.keeps.ensures.safe } in
    let stays : keeps_at W V safe x ≡ true =
    sym (says W V safe c.records.sieve pass.0 x rec es pass.1 are) ∙ sym c.keeps.ensures.says ∙ c.if-keeps.true in
    record {
      pass = (
        Some x,
        knows_on W V safe c.records.sieve pass.0 x rec es pass.1 are c.keeps.new.self goes,
        left_rest W pass.0 x rec es are,
      );
      counted = count_stays L W V safe pass.0 x rec es are c.records.records c.records.values so stays;
    }

pub records-preserved-then-keeps_value_apart : goal.records-preserved-then-keeps_value_apart
records-preserved-then-keeps_value_apart c =
    let flat = c.args.self.now in
    let W = tree.get version_cmp flat.writes in
    let V = λ (k : List ℕ) (t : ℕ). tree.get version_cmp flat.values (k, t) in
    let L = λ (k : List ℕ). option_map (lock_of (V k)) (tree.get (slice_cmp nat_cmp) flat.locks k) in
    let safe = c.args.safe in
    let pass = c.records.invariant.pass in
    let x = c.in-Some.version.now in
    let rec = c.in-Some.rec.now in
    let es = c.next.new.self in
    let are = subst (λ ys. AreLeft W pass.0 ys) c.in-Some.ensures.steps pass.2 in
    let so = subst (λ ys. Counted L W V safe ys c.records.records c.records.values) c.in-Some.ensures.steps
    c.records.invariant.counted in
    let goes : Goes W V safe c.records.sieve c.keeps.new.self x rec =
    record { followed = c.keeps.ensures.followed; key = c.keeps.ensures.key; same = c.keeps.ensures.safe } in
    let gone : keeps_at W V safe x ≡ false =
    sym (says W V safe c.records.sieve pass.0 x rec es pass.1 are) ∙ sym c.keeps.ensures.says ∙ c.if-keeps.false in
    let long = sym (kind_is (flat_content flat x.0) (whole_at (flat_content flat) flat.whole x.0) x.1 rec
    (first_is W pass.0 x rec es are)).has_long_value ∙ sym (apart_is rec) ∙ sym c.keeps_value_apart.ensures
    ∙ c.if-keeps_value_apart.true in
    record {
      pass = (
        Some x,
        knows_on W V safe c.records.sieve pass.0 x rec es pass.1 are c.keeps.new.self goes,
        left_rest W pass.0 x rec es are,
      );
      counted = subst (λ n. Counted L W V safe es n c.in_ok-values.values) (sym c.in_ok-records.ensures.ok)
          (subst (λ n. Counted L W V safe es (c.records.records + 1) n) (sym c.in_ok-values.ensures.ok)
          (count_long L W V safe pass.0 x rec es are c.records.records c.records.values so gone long));
    }

pub records-preserved : goal.records-preserved
records-preserved c =
    let flat = c.args.self.now in
    let W = tree.get version_cmp flat.writes in
    let V = λ (k : List ℕ) (t : ℕ). tree.get version_cmp flat.values (k, t) in
    let L = λ (k : List ℕ). option_map (lock_of (V k)) (tree.get (slice_cmp nat_cmp) flat.locks k) in
    let safe = c.args.safe in
    let pass = c.records.invariant.pass in
    let x = c.in-Some.version.now in
    let rec = c.in-Some.rec.now in
    let es = c.next.new.self in
    let are = subst (λ ys. AreLeft W pass.0 ys) c.in-Some.ensures.steps pass.2 in
    let so = subst (λ ys. Counted L W V safe ys c.records.records c.records.values) c.in-Some.ensures.steps
    c.records.invariant.counted in
    let goes : Goes W V safe c.records.sieve c.keeps.new.self x rec =
    record { followed = c.keeps.ensures.followed; key = c.keeps.ensures.key; same = c.keeps.ensures.safe } in
    let gone : keeps_at W V safe x ≡ false =
    sym (says W V safe c.records.sieve pass.0 x rec es pass.1 are) ∙ sym c.keeps.ensures.says ∙ c.if-keeps.false in
    let short = sym (kind_is (flat_content flat x.0) (whole_at (flat_content flat) flat.whole x.0) x.1 rec
    (first_is W pass.0 x rec es are)).has_long_value ∙ sym (apart_is rec) ∙ sym c.keeps_value_apart.ensures
    ∙ c.if-keeps_value_apart.false in
    record {
      pass = (
        Some x,
        knows_on W V safe c.records.sieve pass.0 x rec es pass.1 are c.keeps.new.self goes,
        left_rest W pass.0 x rec es are,
      );
      counted = subst (λ n. Counted L W V safe es n c.records.values) (sym c.in_ok-records.ensures.ok)
          (count_short L W V safe pass.0 x rec es are c.records.records c.records.values so gone short);
    }

pub returns-clause-counts : goal.returns-clause-counts
returns-clause-counts c =
    let flat = c.args.self.now in
    let W = tree.get version_cmp flat.writes in
    let V = λ (k : List ℕ) (t : ℕ). tree.get version_cmp flat.values (k, t) in
    let L = λ (k : List ℕ). option_map (lock_of (V k)) (tree.get (slice_cmp nat_cmp) flat.locks k) in
    count_ends L W V c.args.safe c.records.records c.records.values
    (subst (λ es. Counted L W V c.args.safe es c.records.records c.records.values) c.in_default.ensures.steps.0
    c.records.invariant.counted)
