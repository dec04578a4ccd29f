-- The index is behind the last entry, or at it, or where the search ends.
use Rattle.std.proofs.Common.{ℕ, ◌-◌, List, length, slice_get, refl, sym, ap, subst, ◌∙◌, rules}
use Rattle.std.specs.BTreeMap.{BTreeMap}
use Rattle.std.specs.Ordering.{nat_cmp, is_lt}
use Rattle.std.proofs.lemmas.Bool.{eqb-true}
use Rattle.std.proofs.lemmas.List.Sorted.{IsPartitionPoint-from_clause}
use Rattle.tx_nested.proofs.EntryOrder.{Rises, lt_from_is_lt, place_past, place_last, parted, place_split, carried}
use Rattle.tx_nested.proofs.timeline.Timeline.index.Goals as goal

pub returns-then-lt-clause-index : goal.returns-then-lt-clause-index
returns-then-lt-clause-index g c =
    let es = c.self.inside.entries.items in
    let seen = ap (λ (m : BTreeMap ℕ g.row.X.Denot). m.entries) c.self.view_is in
    let last = sym (c.in-Some.ensures.value
    ∙ ap (λ (xs : List (ℕ × g.row.X.Denot)). slice_get xs (length xs - 1)) c.deref.ensures.value) in
    carried es _ c.args.at _ _ seen (sym (c.len.ensures ∙ c.self.inside.entries.ok.0))
    (place_past es c.args.at c.self.invariant c.in-Some.field-0.now last (lt_from_is_lt _ _ (sym c.if-lt.ensures)))

pub returns-then-eq-clause-index : goal.returns-then-eq-clause-index
returns-then-eq-clause-index g c =
    let es = c.self.inside.entries.items in
    let seen = ap (λ (m : BTreeMap ℕ g.row.X.Denot). m.entries) c.self.view_is in
    let last = sym (c.in-Some.ensures.value
    ∙ ap (λ (xs : List (ℕ × g.row.X.Denot)). slice_get xs (length xs - 1)) c.deref.ensures.value) in
    carried es _ c.args.at _ _ seen (ap (λ n. n - 1) (sym (c.len-then-eq.ensures ∙ c.self.inside.entries.ok.0)))
    (place_last es c.args.at c.self.invariant c.in-Some.field-0.now last (eqb-true _ _ (sym c.if-eq.ensures)))

pub returns-clause-index : goal.returns-clause-index
returns-clause-index g c =
    let es = c.deref-2.result.now in
    let at = c.args.at in
    let s = subst Rises (sym c.deref-2.ensures.value) c.self.invariant in
    let seen = c.deref-2.ensures.value ∙ ap (λ (m : BTreeMap ℕ g.row.X.Denot). m.entries) c.self.view_is in
    let point = IsPartitionPoint-from_clause (λ (e : ℕ × g.row.X.Denot). is_lt (nat_cmp e.0 at)) es
    c.partition_point.result c.partition_point.ensures.partitioned (parted es at s)
    (λ a r f called. search rules) in
    carried es _ at _ _ seen refl (place_split es at c.partition_point.result c.partition_point.ensures.bound point)
