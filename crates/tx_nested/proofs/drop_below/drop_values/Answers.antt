use Rattle.std.proofs.Common.{◌≡◌, ℕ, eqb, true, not, Option, Some, ap, refl, ◌∙◌}
use Rattle.std.specs.Option.{option_eq}
use Rattle.std.proofs.lemmas.Bool.{eq-eqb}
use Rattle.std.specs.BTreeMap as tree
use Rattle.std.specs.Ordering.{nat_cmp}
use Rattle.tx_nested.proofs.DropSteps.{goes_on}
use Rattle.tx_nested.proofs.drop_below.drop_values.Goals as goal

differ : (stay : Option ℕ) (at : ℕ) → stay ≡ Some at → true ≡ not (option_eq eqb stay (Some at)) → ⊥
differ stay at e t = (
    let no : true ≡ not (eqb at at) = t ∙ ap (λ o. not (option_eq eqb o (Some at))) e in
    let same : eqb at at ≡ true = eq-eqb at at refl in
    cc (no, same))

pub records-preserved-then-ne : goal.records-preserved-then-ne
records-preserved-then-ne c =
    goes_on (tree.get nat_cmp c.args.writes.now) (tree.get nat_cmp c.args.values.now) c.args.safe c.args.stay
    c.records.below (tree.get nat_cmp c.records.values) c.records.invariant
    c.in-Some.at c.in-Some.ensures.found.0 c.in-Some.ensures.newest
    (λ e. differ c.args.stay c.in-Some.at e c.if-ne.ensures) (tree.get nat_cmp c.drop_value.new.values)
    c.drop_value.ensures
