-- A value takes the place of another, or an entry is put in.
use Rattle.std.proofs.Common.{◌≡◌, ℕ, cond, List, [], ◌∷◌, ◌++◌, length, Option, Some, refl, sym, ap, subst, ◌∙◌}
use Rattle.std.specs.BTreeMap.{BTreeMap}
use Rattle.std.specs.List.{insert}
use Rattle.std.proofs.lemmas.List.Edits.{insert_end}
use Rattle.std.specs.Ordering.{nat_cmp, is_eq}
use Rattle.tx_nested.proofs.EntryOrder.{Rises, held_in, other_in, carried}
use Rattle.tx_nested.proofs.Lookups.{find, none_at, on_err}
use Rattle.tx_nested.proofs.EntryChanges.{rises_set, find_set, rises_insert, find_insert}
use Rattle.tx_nested.proofs.timeline.Timeline.insert.Goals as goal

pub invariant_of-self : goal.invariant_of-self
invariant_of-self g c =
    let es = c.self.inside.entries.items in
    let seen = ap (λ (m : BTreeMap ℕ g.row.X.Denot). m.entries) c.self.view_is in
    let held = held_in c.args.self.now.entries es c.index-index.result c.args.at c.value_in.result seen
    c.value_in.ensures (sym c.if-is_some.ensures) in
    rises_set es c.index-index.result c.args.at c.args.x held.0 c.self.invariant held.1

pub returns-then-is_some-clause-updates : goal.returns-then-is_some-clause-updates
returns-then-is_some-clause-updates g c q =
    let es = c.self.inside.entries.items in
    let seen = ap (λ (m : BTreeMap ℕ g.row.X.Denot). m.entries) c.self.view_is in
    let held = held_in c.args.self.now.entries es c.index-index.result c.args.at c.value_in.result seen
    c.value_in.ensures (sym c.if-is_some.ensures) in
    find_set es c.index-index.result c.args.at c.args.x held.0 c.self.invariant held.1 q
    ∙ ap (λ (o : Option g.row.X.Denot). cond (is_eq (nat_cmp c.args.at q)) (Some c.args.x) o) (ap (find q) seen)

pub invariant_of-self-2 : goal.invariant_of-self-2
invariant_of-self-2 g c =
    let es = c.self.inside.entries.items in
    let seen = ap (λ (m : BTreeMap ℕ g.row.X.Denot). m.entries) c.self.view_is in
    let index = carried c.args.self.now.entries es c.args.at _ _ (sym seen) refl c.index-index.ensures.index in
    let other = other_in c.args.self.now.entries es c.index-index.result c.args.at c.value_in.result seen
    c.value_in.ensures (sym c.if-is_some.ensures) in
    subst Rises (sym c.in_ok-insert.ensures.items)
    (rises_insert es c.args.at c.index-index.result c.args.x c.self.invariant index other)

pub returns-clause-updates : goal.returns-clause-updates
returns-clause-updates g c q =
    let es = c.self.inside.entries.items in
    let seen = ap (λ (m : BTreeMap ℕ g.row.X.Denot). m.entries) c.self.view_is in
    let index = carried c.args.self.now.entries es c.args.at _ _ (sym seen) refl c.index-index.ensures.index in
    let other = other_in c.args.self.now.entries es c.index-index.result c.args.at c.value_in.result seen
    c.value_in.ensures (sym c.if-is_some.ensures) in
    ap (find q) c.in_ok-insert.ensures.items
    ∙ find_insert es c.args.at c.index-index.result c.args.x c.self.invariant index other q
    ∙ ap (λ (o : Option g.row.X.Denot). cond (is_eq (nat_cmp c.args.at q)) (Some c.args.x) o) (ap (find q) seen)

pub returns-in_err-push-clause-absent : goal.returns-in_err-push-clause-absent
returns-in_err-push-clause-absent g c =
    let es = c.args.self.now.entries in
    let other = other_in es es c.index-index.result c.args.at c.value_in.result refl c.value_in.ensures
    (sym c.if-is_some.ensures) in
    on_err c.from_residual.result
    (none_at es c.args.at c.index-index.result c.index-index.ensures.ordered c.index-index.ensures.index other)

pub returns-in_err-insert-clause-absent : goal.returns-in_err-insert-clause-absent
returns-in_err-insert-clause-absent g c =
    let es = c.args.self.now.entries in
    let other = other_in es es c.index-index.result c.args.at c.value_in.result refl c.value_in.ensures
    (sym c.if-is_some.ensures) in
    on_err c.from_residual-in_err-insert.result
    (none_at es c.args.at c.index-index.result c.index-index.ensures.ordered c.index-index.ensures.index other)

-- a push is an insertion at the end
pushed : {X : Type 0} (es fs : List (ℕ × X)) (i : ℕ) (e : ℕ × X) → fs ≡ es ++ e ∷ [] → i ≡ length es
    → fs ≡ insert es i e
pushed es fs i e is end = is ∙ sym (ap (λ n. insert es n e) end ∙ insert_end es e)

pub invariant_of-self-then-index-len : goal.invariant_of-self-then-index-len
invariant_of-self-then-index-len g c =
    let es = c.self.inside.entries.items in
    let seen = ap (λ (m : BTreeMap ℕ g.row.X.Denot). m.entries) c.self.view_is in
    let index = carried c.args.self.now.entries es c.args.at _ _ (sym seen) refl c.index-index.ensures.index in
    let other = other_in c.args.self.now.entries es c.index-index.result c.args.at c.value_in.result seen
    c.value_in.ensures (sym c.if-is_some.ensures) in
    let is = pushed es c.push.new.self.items c.index-index.result (
      c.args.at,
      c.args.x,
    ) c.in_ok-push.ensures.items (c.if-index-len.true ∙ c.len.ensures ∙ c.self.inside.entries.ok.0) in
    subst Rises (sym is) (rises_insert es c.args.at c.index-index.result c.args.x c.self.invariant index other)

pub returns-then-index-len-clause-updates : goal.returns-then-index-len-clause-updates
returns-then-index-len-clause-updates g c q =
    let es = c.self.inside.entries.items in
    let seen = ap (λ (m : BTreeMap ℕ g.row.X.Denot). m.entries) c.self.view_is in
    let index = carried c.args.self.now.entries es c.args.at _ _ (sym seen) refl c.index-index.ensures.index in
    let other = other_in c.args.self.now.entries es c.index-index.result c.args.at c.value_in.result seen
    c.value_in.ensures (sym c.if-is_some.ensures) in
    let is = pushed es c.push.new.self.items c.index-index.result (
      c.args.at,
      c.args.x,
    ) c.in_ok-push.ensures.items (c.if-index-len.true ∙ c.len.ensures ∙ c.self.inside.entries.ok.0) in
    ap (find q) is
    ∙ find_insert es c.args.at c.index-index.result c.args.x c.self.invariant index other q
    ∙ ap (λ (o : Option g.row.X.Denot). cond (is_eq (nat_cmp c.args.at q)) (Some c.args.x) o) (ap (find q) seen)
