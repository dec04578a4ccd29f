use Rattle.std.proofs.Common.{◌≡◌, Some, None, Option, cond, bytes_eq, sym, ap, ◌∙◌, refl}
use Rattle.std.specs.Cmp.Lexicographic.{slice_cmp}
use Rattle.std.specs.Ordering.{nat_cmp}
use Rattle.std.specs.BTreeMap as tree
use Rattle.tx_nested.specs.declared.key.KeyFamilies.{KeyFamilies}
use Rattle.tx_cells.specs.Contents.{OnKey, cells_of}
use Rattle.tx_cells.specs.Afterwards.{put_on}
use Rattle.tx_nested.specs.Nested.{held_on, nested_content, number_on}
use Rattle.tx_cells.proofs.Facts.{on_ok, on_err}
use Rattle.tx_cells.proofs.CellsAfter.{cells_put}
use Rattle.tx_nested.proofs.NestedMaps.{placed, unplaced, first_placed, moved, numbered, unnumbered}
use Rattle.tx_nested.proofs.changes.NestedCellsChanges.put_lock.Goals as goal

pub returns-in-Some-clause-content : goal.returns-in-Some-clause-content
returns-in-Some-clause-content c =
    let b = c.args.body.now in
    let old = tree.get (slice_cmp nat_cmp) c.args.self.now.keys in
    let new = tree.get (slice_cmp nat_cmp) (c.get_mut.follows.lender c.put_lock.new.self) in
    let here : old c.bytes-spelt.result.now ≡ Some c.in-Some.on_key.now = sym c.in-Some.ensures.value in
    let there : old b.key ≡ Some c.in-Some.on_key.now = ap old (sym (c.bytes-spelt.ensures ∙ c.requires.of)) ∙ here in
    let put = moved old new c.bytes-spelt.result.now b.key (Some c.put_lock.new.self) (c.bytes-spelt.ensures
    ∙ c.requires.of) ((c.get_mut.follows.holds c.put_lock.new.self).3 (rw here refl)).0 in
    on_ok c.put_lock.result _ _
    (λ ok. placed old new b.key (Some c.put_lock.new.self) (put_on (held_on (old b.key)) b c.args.new) put
    (ok ∙ ap (λ (o : Option KeyFamilies). put_on (held_on o) b c.args.new) (sym there))) c.put_lock.ensures.ok

pub returns-in-Some-clause-cells : goal.returns-in-Some-clause-cells
returns-in-Some-clause-cells c =
    let b = c.args.body.now in
    let old = tree.get (slice_cmp nat_cmp) c.args.self.now.keys in
    let new = tree.get (slice_cmp nat_cmp) (c.get_mut.follows.lender c.put_lock.new.self) in
    let here : old c.bytes-spelt.result.now ≡ Some c.in-Some.on_key.now = sym c.in-Some.ensures.value in
    let there : old b.key ≡ Some c.in-Some.on_key.now = ap old (sym (c.bytes-spelt.ensures ∙ c.requires.of)) ∙ here in
    let put = moved old new c.bytes-spelt.result.now b.key (Some c.put_lock.new.self) (c.bytes-spelt.ensures
    ∙ c.requires.of) ((c.get_mut.follows.holds c.put_lock.new.self).3 (rw here refl)).0 in
    on_ok c.put_lock.result _ _
    (λ ok. ap cells_of (placed old new b.key (Some c.put_lock.new.self) (put_on (held_on (old b.key)) b c.args.new)
    put
    (ok ∙ ap (λ (o : Option KeyFamilies). put_on (held_on o) b c.args.new) (sym there))).here
    ∙ cells_put (held_on (old b.key)) b c.args.new c.requires.can) c.put_lock.ensures.ok

pub returns-in-Some-clause-same : goal.returns-in-Some-clause-same
returns-in-Some-clause-same c =
    let b = c.args.body.now in
    let old = tree.get (slice_cmp nat_cmp) c.args.self.now.keys in
    let new = tree.get (slice_cmp nat_cmp) (c.get_mut.follows.lender c.put_lock.new.self) in
    let here : old c.bytes-spelt.result.now ≡ Some c.in-Some.on_key.now = sym c.in-Some.ensures.value in
    let there : old b.key ≡ Some c.in-Some.on_key.now = ap old (sym (c.bytes-spelt.ensures ∙ c.requires.of)) ∙ here in
    let put = moved old new c.bytes-spelt.result.now b.key (Some c.put_lock.new.self) (c.bytes-spelt.ensures
    ∙ c.requires.of) ((c.get_mut.follows.holds c.put_lock.new.self).3 (rw here refl)).0 in
    on_err c.put_lock.result _ _ (λ same. unplaced old new b.key (Some c.put_lock.new.self) put
    (same ∙ ap held_on (sym there))) c.put_lock.ensures.same

pub returns-clause-content : goal.returns-clause-content
returns-clause-content c =
    let b = c.args.body.now in
    let old = tree.get (slice_cmp nat_cmp) c.args.self.now.keys in
    let there = tree.get (slice_cmp nat_cmp) c.get_mut.follows.lender-at-none in
    let new = tree.get (slice_cmp nat_cmp) c.insert.new.self in
    let absent : old b.key ≡ None =
    ap old (sym (c.bytes-spelt.ensures ∙ c.requires.of)) ∙ sym c.in_default.ensures.value in
    first_placed old there new c.in_ok-key.key b.key (Some c.put_lock-2.new.self)
    (put_on (held_on (old b.key)) b c.args.new) (ap (tree.get (slice_cmp nat_cmp)) c.get_mut.follows.holds-at-none)
    (c.in_ok-key.ensures ∙ c.bytes-spelt.ensures ∙ c.requires.of) c.in_ok-insert.ensures.updates.0
    (c.in_ok-put_lock.ensures.ok
    ∙ ap (λ (x : OnKey). put_on x b c.args.new) (c.new-on_key.ensures ∙ sym (ap held_on absent)))

pub returns-clause-cells : goal.returns-clause-cells
returns-clause-cells c =
    let b = c.args.body.now in
    ap cells_of (returns-clause-content c).here
    ∙ cells_put (nested_content c.args.self.now b.key) b c.args.new c.requires.can

pub returns-in-Some-clause-noted : goal.returns-in-Some-clause-noted
returns-in-Some-clause-noted c =
    let b = c.args.body.now in
    let old = tree.get (slice_cmp nat_cmp) c.args.self.now.keys in
    let new = tree.get (slice_cmp nat_cmp) (c.get_mut.follows.lender c.put_lock.new.self) in
    let here : old c.bytes-spelt.result.now ≡ Some c.in-Some.on_key.now = sym c.in-Some.ensures.value in
    let there : old b.key ≡ Some c.in-Some.on_key.now = ap old (sym (c.bytes-spelt.ensures ∙ c.requires.of)) ∙ here in
    let put = moved old new c.bytes-spelt.result.now b.key (Some c.put_lock.new.self) (c.bytes-spelt.ensures
    ∙ c.requires.of) ((c.get_mut.follows.holds c.put_lock.new.self).3 (rw here refl)).0 in
    on_ok c.put_lock.result _ _ (λ is. numbered old new b.key c.put_lock.new.self c.args.number put is)
    c.put_lock.ensures.number

pub returns-in-Some-clause-same_numbers : goal.returns-in-Some-clause-same_numbers
returns-in-Some-clause-same_numbers c =
    let b = c.args.body.now in
    let old = tree.get (slice_cmp nat_cmp) c.args.self.now.keys in
    let new = tree.get (slice_cmp nat_cmp) (c.get_mut.follows.lender c.put_lock.new.self) in
    let here : old c.bytes-spelt.result.now ≡ Some c.in-Some.on_key.now = sym c.in-Some.ensures.value in
    let there : old b.key ≡ Some c.in-Some.on_key.now = ap old (sym (c.bytes-spelt.ensures ∙ c.requires.of)) ∙ here in
    let put = moved old new c.bytes-spelt.result.now b.key (Some c.put_lock.new.self) (c.bytes-spelt.ensures
    ∙ c.requires.of) ((c.get_mut.follows.holds c.put_lock.new.self).3 (rw here refl)).0 in
    on_err c.put_lock.result _ _
    (λ same. unnumbered old new b.key (Some c.put_lock.new.self) put (same ∙ ap number_on (sym there)))
    c.put_lock.ensures.kept

pub returns-clause-noted : goal.returns-clause-noted
returns-clause-noted c =
    let b = c.args.body.now in
    let old = tree.get (slice_cmp nat_cmp) c.args.self.now.keys in
    let there = tree.get (slice_cmp nat_cmp) c.get_mut.follows.lender-at-none in
    let new = tree.get (slice_cmp nat_cmp) c.insert.new.self in
    let same : there ≡ old = ap (tree.get (slice_cmp nat_cmp)) c.get_mut.follows.holds-at-none in
    let put = moved there new c.in_ok-key.key b.key (Some c.put_lock-2.new.self) (c.in_ok-key.ensures
    ∙ c.bytes-spelt.ensures ∙ c.requires.of) c.in_ok-insert.ensures.updates.0 in
    λ k. numbered there new b.key c.put_lock-2.new.self c.args.number put c.in_ok-put_lock.ensures.number k
    ∙ ap (λ (f : _). cond (bytes_eq b.key k) c.args.number (number_on (f k))) same
