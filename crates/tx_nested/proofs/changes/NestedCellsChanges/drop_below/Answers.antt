use Rattle.std.proofs.Common.{◌≡◌, ap, refl, sym, subst, ◌∙◌}
use Rattle.tx_types.specs.declared.key.Key.{Key}
use Rattle.tx_nested.specs.declared.key.KeyFamilies.{KeyFamilies}
use Rattle.tx_nested.specs.Nested.{held, held_on}
use Rattle.tx_nested.proofs.NestedRows.{find}
use Rattle.tx_nested.proofs.NestedCollects.{CollectsOn, collects_all, numbers_all}
use Rattle.tx_nested.proofs.changes.NestedCellsChanges.drop_below.Goals as goal

each_key : (c : goal.After-retain) → (k : Key)
    → CollectsOn c.args.safe (held_on (find k c.args.self.now.keys.entries))
    (held_on (find k c.retain.new.self.entries))
each_key c = collects_all _ (λ f. f.0.now ≡ c.args.safe) c.args.safe
    (λ f j v b w g i t.
    let m = t.called.met in
    let moved : CollectsOn f.0.now (held t.value.now) (held t.left.now) =
    record { content = m.1.0; cells = m.1.1.0 } in (
      subst (λ n. CollectsOn n (held v) (held w)) i
          (subst (λ (x : KeyFamilies). CollectsOn f.0.now (held x) (held w)) t.shows.1
          (subst (λ (y : KeyFamilies). CollectsOn f.0.now (held t.value.now) (held y)) t.leaves moved)),
      λ no. ap held (sym t.leaves) ∙ m.1.1.1.0 no,
      ap (λ x. x.now) m.0 ∙ i,
    ))
    _ c.args.self.now.keys.entries c.retain.new.self.entries refl c.retain.ensures.was_ordered c.retain.ensures.filtered

pub returns-clause-content : goal.returns-clause-content
returns-clause-content c = λ k. (each_key c k).content

pub returns-clause-cells : goal.returns-clause-cells
returns-clause-cells c = λ k. (each_key c k).cells

pub returns-clause-numbers : goal.returns-clause-numbers
returns-clause-numbers c = λ k.
    numbers_all _ (λ f. f.0.now ≡ c.args.safe) c.args.safe
    (λ f j v b w g i t.
    let m = t.called.met in
    let moved : CollectsOn f.0.now (held t.value.now) (held t.left.now) =
    record { content = m.1.0; cells = m.1.1.0 } in (
      subst (λ n. CollectsOn n (held v) (held w)) i
          (subst (λ (x : KeyFamilies). CollectsOn f.0.now (held x) (held w)) t.shows.1
          (subst (λ (y : KeyFamilies). CollectsOn f.0.now (held t.value.now) (held y)) t.leaves moved)),
      λ no. ap held (sym t.leaves) ∙ m.1.1.1.0 no,
      ap (λ x. x.now) m.0 ∙ i,
    ))
    (λ f j v b w g i t. ap (λ (x : KeyFamilies). x.number) (sym t.leaves)
    ∙ (t.called.met.1.1.1.1 ∙ ap (λ (x : KeyFamilies). x.number) t.shows.1))
    _ c.args.self.now.keys.entries c.retain.new.self.entries refl c.retain.ensures.was_ordered c.retain.ensures.filtered
    k
