use Rattle.std.proofs.Common.{◌≡◌, Some, None, Option, cond, bytes_eq, sym, ap, subst, ◌∙◌, refl}
use Rattle.std.specs.Cmp.Lexicographic.{slice_cmp}
use Rattle.std.specs.Ordering.{nat_cmp}
use Rattle.std.specs.BTreeMap as tree
use Rattle.tx_plan.specs.Changes.{Applies, changed}
use Rattle.tx_nested.specs.declared.key.KeyFamilies.{KeyFamilies}
use Rattle.tx_cells.specs.Contents.{OnKey, cells_of}
use Rattle.tx_cells.specs.Afterwards.{after}
use Rattle.tx_nested.specs.Nested.{held, held_on}
use Rattle.tx_cells.proofs.Facts.{on_ok, on_err}
use Rattle.tx_cells.proofs.Numbers.{noted_where}
use Rattle.tx_nested.specs.Nested.{number_on, nested_numbers}
use Rattle.tx_nested.proofs.NestedMaps.{placed, unplaced, first_placed, at_key, moved, numbered, unnumbered}
use Rattle.tx_nested.proofs.changes.NestedCellsChanges.apply.Goals as goal

pub returns-in-Some-clause-content : goal.returns-in-Some-clause-content
returns-in-Some-clause-content c =
    let key = c.args.key.now in
    let old = tree.get (slice_cmp nat_cmp) c.args.self.now.keys in
    let new = tree.get (slice_cmp nat_cmp) (c.get_mut.follows.lender c.apply.new.self) in
    let here : old c.bytes-spelt.result.now ≡ Some c.in-Some.on_key.now = sym c.in-Some.ensures.value in
    let there : old key ≡ Some c.in-Some.on_key.now = ap old (sym c.bytes-spelt.ensures) ∙ here in
    let put = moved old new c.bytes-spelt.result.now key (Some c.apply.new.self) c.bytes-spelt.ensures
    ((c.get_mut.follows.holds c.apply.new.self).3 (rw here refl)).0 in
    on_ok c.apply.result _ _
    (λ ok. placed old new key (Some c.apply.new.self) (after (held_on (old key)) c.args.change) put
    (ok ∙ ap (λ (o : Option KeyFamilies). after (held_on o) c.args.change) (sym there))) c.apply.ensures.ok

pub returns-in-Some-clause-cells : goal.returns-in-Some-clause-cells
returns-in-Some-clause-cells c =
    let key = c.args.key.now in
    let old = tree.get (slice_cmp nat_cmp) c.args.self.now.keys in
    let new = tree.get (slice_cmp nat_cmp) (c.get_mut.follows.lender c.apply.new.self) in
    let here : old c.bytes-spelt.result.now ≡ Some c.in-Some.on_key.now = sym c.in-Some.ensures.value in
    let there : old key ≡ Some c.in-Some.on_key.now = ap old (sym c.bytes-spelt.ensures) ∙ here in
    let put = moved old new c.bytes-spelt.result.now key (Some c.apply.new.self) c.bytes-spelt.ensures
    ((c.get_mut.follows.holds c.apply.new.self).3 (rw here refl)).0 in
    on_ok c.apply.result _ _
    (λ cells. ap (λ (o : Option KeyFamilies). cells_of (held_on o)) (at_key old new key (Some c.apply.new.self) put)
    ∙ cells ∙ ap (λ (o : Option KeyFamilies). changed (cells_of (held_on o)) c.args.change) (sym there))
    c.apply.ensures.cells

pub returns-in-Some-clause-same : goal.returns-in-Some-clause-same
returns-in-Some-clause-same c =
    let key = c.args.key.now in
    let old = tree.get (slice_cmp nat_cmp) c.args.self.now.keys in
    let new = tree.get (slice_cmp nat_cmp) (c.get_mut.follows.lender c.apply.new.self) in
    let here : old c.bytes-spelt.result.now ≡ Some c.in-Some.on_key.now = sym c.in-Some.ensures.value in
    let there : old key ≡ Some c.in-Some.on_key.now = ap old (sym c.bytes-spelt.ensures) ∙ here in
    let put = moved old new c.bytes-spelt.result.now key (Some c.apply.new.self) c.bytes-spelt.ensures
    ((c.get_mut.follows.holds c.apply.new.self).3 (rw here refl)).0 in
    on_err c.apply.result _ _ (λ same. unplaced old new key (Some c.apply.new.self) put
    (same ∙ ap held_on (sym there))) c.apply.ensures.same

pub apply-requires : goal.apply-requires
apply-requires c =
    let old = tree.get (slice_cmp nat_cmp) c.args.self.now.keys in
    let there : old c.args.key.now ≡ Some c.in-Some.on_key.now =
    ap old (sym c.bytes-spelt.ensures) ∙ sym c.in-Some.ensures.value in
    subst (λ (o : Option KeyFamilies). Applies (cells_of (held_on o)) c.args.change) there c.requires

pub apply-requires-2 : goal.apply-requires-2
apply-requires-2 c =
    let old = tree.get (slice_cmp nat_cmp) c.args.self.now.keys in
    let absent : old c.args.key.now ≡ None =
    ap old (sym c.bytes-spelt.ensures) ∙ sym c.in_default-get_mut.ensures.value in
    subst (λ (x : OnKey). Applies (cells_of x) c.args.change) (sym (c.new-on_key.ensures ∙ sym (ap held_on absent)))
    c.requires

pub returns-clause-content : goal.returns-clause-content
returns-clause-content c =
    let key = c.args.key.now in
    let old = tree.get (slice_cmp nat_cmp) c.args.self.now.keys in
    let there = tree.get (slice_cmp nat_cmp) c.get_mut.follows.lender-at-none in
    let new = tree.get (slice_cmp nat_cmp) c.insert.new.self in
    let absent : old key ≡ None = ap old (sym c.bytes-spelt.ensures) ∙ sym c.in_default-get_mut.ensures.value in
    first_placed old there new c.in_ok-key.key key (Some c.apply-2.new.self) (after (held_on (old key)) c.args.change)
    (ap (tree.get (slice_cmp nat_cmp)) c.get_mut.follows.holds-at-none) (c.in_ok-key.ensures
    ∙ c.bytes-spelt.ensures) c.in_ok-insert.ensures.updates.0
    (c.in_ok-apply.ensures.ok
    ∙ ap (λ (x : OnKey). after x c.args.change) (c.new-on_key.ensures ∙ sym (ap held_on absent)))

pub returns-clause-cells : goal.returns-clause-cells
returns-clause-cells c =
    let key = c.args.key.now in
    let old = tree.get (slice_cmp nat_cmp) c.args.self.now.keys in
    let absent : old key ≡ None = ap old (sym c.bytes-spelt.ensures) ∙ sym c.in_default-get_mut.ensures.value in
    let free : held c.new-on_key.result ≡ held_on (old key) = c.new-on_key.ensures ∙ sym (ap held_on absent) in
    ap cells_of ((returns-clause-content c).here ∙ ap (λ (x : OnKey). after x c.args.change) (sym free)
    ∙ sym c.in_ok-apply.ensures.ok) ∙ c.in_ok-apply.ensures.cells
    ∙ ap (λ (x : OnKey). changed (cells_of x) c.args.change) free

pub returns-in-Some-clause-noted : goal.returns-in-Some-clause-noted
returns-in-Some-clause-noted c =
    let key = c.args.key.now in
    let old = tree.get (slice_cmp nat_cmp) c.args.self.now.keys in
    let new = tree.get (slice_cmp nat_cmp) (c.get_mut.follows.lender c.apply.new.self) in
    let here : old c.bytes-spelt.result.now ≡ Some c.in-Some.on_key.now = sym c.in-Some.ensures.value in
    let put = moved old new c.bytes-spelt.result.now key (Some c.apply.new.self) c.bytes-spelt.ensures
    ((c.get_mut.follows.holds c.apply.new.self).3 (rw here refl)).0 in
    on_ok c.apply.result _ _ (λ is k. numbered old new key c.apply.new.self c.args.number put is k
    ∙ sym (noted_where c.args.change c.in_default.not-Nothing (nested_numbers c.args.self.now) key c.args.number k))
    c.apply.ensures.number

pub returns-in-Some-clause-same_numbers : goal.returns-in-Some-clause-same_numbers
returns-in-Some-clause-same_numbers c =
    let key = c.args.key.now in
    let old = tree.get (slice_cmp nat_cmp) c.args.self.now.keys in
    let new = tree.get (slice_cmp nat_cmp) (c.get_mut.follows.lender c.apply.new.self) in
    let here : old c.bytes-spelt.result.now ≡ Some c.in-Some.on_key.now = sym c.in-Some.ensures.value in
    let there : old key ≡ Some c.in-Some.on_key.now = ap old (sym c.bytes-spelt.ensures) ∙ here in
    let put = moved old new c.bytes-spelt.result.now key (Some c.apply.new.self) c.bytes-spelt.ensures
    ((c.get_mut.follows.holds c.apply.new.self).3 (rw here refl)).0 in
    on_err c.apply.result _ _
    (λ same. unnumbered old new key (Some c.apply.new.self) put (same ∙ ap number_on (sym there)))
    c.apply.ensures.kept

pub returns-clause-noted : goal.returns-clause-noted
returns-clause-noted c =
    let key = c.args.key.now in
    let old = tree.get (slice_cmp nat_cmp) c.args.self.now.keys in
    let there = tree.get (slice_cmp nat_cmp) c.get_mut.follows.lender-at-none in
    let new = tree.get (slice_cmp nat_cmp) c.insert.new.self in
    let same : there ≡ old = ap (tree.get (slice_cmp nat_cmp)) c.get_mut.follows.holds-at-none in
    let put = moved there new c.in_ok-key.key key (Some c.apply-2.new.self) (c.in_ok-key.ensures
    ∙ c.bytes-spelt.ensures) c.in_ok-insert.ensures.updates.0 in
    λ k. numbered there new key c.apply-2.new.self c.args.number put c.in_ok-apply.ensures.number k
    ∙ (ap (λ (f : _). cond (bytes_eq key k) c.args.number (number_on (f k))) same
    ∙ sym (noted_where c.args.change c.in_default.not-Nothing (nested_numbers c.args.self.now) key c.args.number k))
