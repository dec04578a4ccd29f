use Rattle.std.proofs.Common.{◌≡◌, ◌↔◌, ℕ, List, Some, ap, sym, subst, ◌∙◌}
use Rattle.std.specs.Prelude.{Contains, IsSome, option_map}
use Rattle.std.specs.BTreeMap as tree
use Rattle.std.specs.Ordering.{nat_cmp}
use Rattle.std.specs.Cmp.Lexicographic.{slice_cmp}
use Rattle.tx_cells.specs.Heads.{write_head, lock_head}
use Rattle.tx_spelling.specs.Spelt.{version_cmp}
use Rattle.tx_flat.specs.Flats.{flat_content}
use Rattle.tx_cells.proofs.Copied.{copied}
use Rattle.tx_cells.proofs.Facts.{fitting, whole_at}
use Rattle.tx_cells.proofs.NewestFirst.{starts_fit}
use Rattle.tx_flat.proofs.sees.FlatCellsSees.cells.Goals as goal

pub records_down-requires : goal.records_down-requires
records_down-requires c =
    fitting (flat_content c.args.self.now c.in_ok-version.version.0)
    (whole_at (flat_content c.args.self.now) c.args.self.now.whole c.in_ok-version.version.0)

pub returns-clause-copies : goal.returns-clause-copies
returns-clause-copies c =
    let flat = c.args.self.now in
    let x = flat_content flat c.args.key.now in
    let whole = whole_at (flat_content flat) flat.whole c.args.key.now in
    let writes = tree.get version_cmp flat.writes in
    let values = tree.get version_cmp flat.values in
    let first = ap (λ (v : List ℕ × ℕ). v.0) c.in_ok-version.ensures in
    let key = c.records_down.ensures.same_key ∙ first in
    let lock = c.head_on-lock.result in
    let lock_is = subst (λ (k : List ℕ). lock
    ≡ option_map lock_head (tree.get (slice_cmp nat_cmp) flat.locks k)) (c.spelt.ensures
    ∙ first) c.head_on-lock.ensures in
    let fits = starts_fit x whole lock lock_is c.start_fits.ensures in
    copied x (record { lock = lock; records = c.in_ok-records.records; values = c.in_ok-values.values }) whole lock_is
    c.in_ok-records.ensures.fall
    (λ at head. subst (λ (k : List ℕ). Contains c.in_ok-records.records (record { at = at; head = head })
    ↔ (option_map write_head (writes (k, at)) ≡ Some head)) first (c.in_ok-records.ensures.all at head))
    c.in_ok-values.ensures.fall
    (λ t. (
      λ has. subst (λ (k : List ℕ). IsSome (values (k, t))) key ((c.in_ok-values.ensures.all t).0 has).1,
      λ some. (c.in_ok-values.ensures.all t).1 (
        fits t some,
        subst (λ (k : List ℕ). IsSome (values (k, t))) (sym key) some,
      ),
    ))
