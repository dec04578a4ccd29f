use Rattle.std.proofs.Common.{◌≡◌, ℕ, cond, Option, Some, refl, sym, ap, subst, ◌∙◌}
use Rattle.std.specs.BTreeMap as tree
use Rattle.std.specs.Cmp.Lexicographic.{slice_cmp}
use Rattle.std.specs.Ordering.{nat_cmp, is_eq}
use Rattle.std.specs.Prelude.{IsSome}
use Rattle.tx_cells.proofs.Maps.{key_here}
use Rattle.tx_flat.proofs.FlatNumbers.{number_put}
use Rattle.tx_flat.proofs.numbers.note_first.Goals as goal

pub returns-clause-noted : goal.returns-clause-noted
returns-clause-noted c =
    number_put (tree.get (slice_cmp nat_cmp) c.args.numbers.now) (tree.get (slice_cmp nat_cmp) c.insert.new.self)
    c.in_ok-spelt.spelt c.args.key.now c.args.number (c.in_ok-spelt.ensures
    ∙ c.bytes.ensures) c.in_ok-before.ensures.updates.0

pub returns-clause-there : goal.returns-clause-there
returns-clause-there c =
    let key = c.args.key.now in
    let old = tree.get (slice_cmp nat_cmp) c.args.numbers.now in
    let new = tree.get (slice_cmp nat_cmp) c.insert.new.self in
    let at : new key ≡ Some c.args.number =
    c.in_ok-before.ensures.updates.0 key
    ∙ (ap (λ i. cond (is_eq (slice_cmp nat_cmp i key)) (Some c.args.number) (old key)) (c.in_ok-spelt.ensures
    ∙ c.bytes.ensures) ∙ ap (λ b. cond b (Some c.args.number) (old key)) (key_here key)) in
    subst (λ (o : Option ℕ). IsSome o) (sym at) refl
