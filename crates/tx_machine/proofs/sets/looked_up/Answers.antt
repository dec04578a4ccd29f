use Rattle.std.proofs.Common.{◌≡◌, true, false, take, get_or, ap, sym, ◌∙◌, is_some, cond}
use Rattle.std.specs.BTreeMap as tree
use Rattle.std.specs.Cmp.Lexicographic.{slice_cmp}
use Rattle.std.specs.Ordering.{nat_cmp}
use Rattle.std.specs.BTreeSet as sorted
use Rattle.tx_types.specs.declared.key.Key.{Key}
use Rattle.tx_types.specs.declared.mutation.Change.{Change}
use Rattle.tx_machine.specs.Keys.{mutation_at}
use Rattle.tx_machine.proofs.Distinct.{distinct_snoc, stands_twice, some_more, not_false, not_true}
use Rattle.tx_machine.proofs.sets.looked_up.Goals as goal

pub returns-then-not-branch-clause-twice : goal.returns-then-not-branch-clause-twice
returns-then-not-branch-clause-twice c =
    let key : c.in_ok-clone.field-0 ≡ (get_or c.args.set.now c.loop-change.change-index c.change-item.result).key =
    c.in_ok-clone.ensures.ok ∙ ap (λ (x : Change). x.key) c.change-item.is in
    let has = not_false _ _ c.in_ok-insert.ensures.added c.if-not-branch.true in
    let again : is_some (mutation_at (take c.loop-change.change-index c.args.set.now)
    (get_or c.args.set.now c.loop-change.change-index c.change-item.result).key) ≡ true =
    sym (c.loop-change.invariant.earlier _)
    ∙ (ap (sorted.contains (slice_cmp nat_cmp) c.loop-change.earlier) (sym key) ∙ has) in
    stands_twice c.args.set.now c.loop-change.change-index c.change-item.result c.loop-change-test.true c.change-item.is
    again

pub loop-change-preserved : goal.loop-change-preserved
loop-change-preserved c =
    let key : c.in_ok-clone.field-0 ≡ (get_or c.args.set.now c.loop-change.change-index c.change-item.result).key =
    c.in_ok-clone.ensures.ok ∙ ap (λ (x : Change). x.key) c.change-item.is in
    let has = not_true _ _ c.in_ok-insert.ensures.added c.if-not-branch.false in
    let first : is_some (mutation_at (take c.loop-change.change-index c.args.set.now)
    (get_or c.args.set.now c.loop-change.change-index c.change-item.result).key) ≡ false =
    sym (c.loop-change.invariant.earlier _)
    ∙ (ap (sorted.contains (slice_cmp nat_cmp) c.loop-change.earlier) (sym key) ∙ has) in
    record {
      distinct = distinct_snoc c.args.set.now c.loop-change.change-index c.change-item.result c.loop-change-test.true
          c.loop-change.invariant.distinct first;
      earlier = λ k.
          c.in_ok-insert.ensures.updates.0 k
          ∙ (ap (λ (j : Key). cond (tree.is_at (slice_cmp nat_cmp j) k) true
          (sorted.contains (slice_cmp nat_cmp) c.loop-change.earlier k)) key
          ∙ some_more c.args.set.now c.loop-change.change-index c.change-item.result k
          (sorted.contains (slice_cmp nat_cmp) c.loop-change.earlier) c.loop-change-test.true
          c.loop-change.invariant.earlier);
    }
