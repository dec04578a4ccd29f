use Rattle.std.proofs.Common.{◌≡◌, ◌≤◌, ℕ, List, Option, sym, ap, ◌∙◌, subst}
use Rattle.std.specs.Prelude.{IsSome, IfOk}
use Rattle.std.specs.BTreeMap as tree
use Rattle.tx_types.specs.declared.value.Value.{Value}
use Rattle.tx_plan.specs.Reads.{Reads}
use Rattle.tx_cells.specs.Contents.{cells_of}
use Rattle.tx_flat.specs.Ceilings.{ceiling_of}
use Rattle.tx_flat.specs.Flats.{flat_content}
use Rattle.tx_spelling.specs.Spelt.{version_cmp}
use Rattle.tx_flat.proofs.FlatBounds.{at_most}
use Rattle.tx_flat.proofs.FlatCells.value_seen.Goals as goal

pub value_by-requires-clause-newest : goal.value_by-requires-clause-newest
value_by-requires-clause-newest c = λ q there.
    let flat = c.args.self.now in
    let top : ceiling_of flat.ceilings c.args.key.now ≡ c.set_at.new.self.1 =
    sym c.of-ceiling.ensures ∙ sym (ap (λ v. v.1) c.set_at.ensures) in
    subst (λ n. q ≤ n) top
    (at_most (tree.get version_cmp flat.writes) (ceiling_of flat.ceilings) c.args.key.now q
    (subst (λ (k : List ℕ). IsSome (tree.get version_cmp flat.writes (k, q))) c.bytes-spelt.ensures there)
    flat.bounded)

pub returns-in-Some-clause-value : goal.returns-in-Some-clause-value
returns-in-Some-clause-value c =
    subst (λ (k : List ℕ). IfOk c.value_by.result
    (λ (value : Option Value). Reads (cells_of (flat_content c.args.self.now k)).write c.args.at value))
    c.bytes-spelt.ensures c.value_by.ensures.value

pub returns-clause-value : goal.returns-clause-value
returns-clause-value c =
    subst (λ (k : List ℕ). IfOk c.value_searched.result
    (λ (value : Option Value). Reads (cells_of (flat_content c.args.self.now k)).write c.args.at value))
    c.bytes-spelt.ensures c.value_searched.ensures.value
