use Rattle.std.proofs.Common.{◌≡◌, sym, ap, subst, ◌∙◌, refl, List, Some, None}
use Rattle.std.specs.Ordering.{nat_cmp}
use Rattle.std.specs.BTreeMap as tree
use Rattle.tx_types.specs.declared.mutation.Change.{Change}
use Rattle.tx_machine.specs.declared.machine.TxnStage.{TxnStage}
use Rattle.tx_machine.specs.declared.machine.TxnStage.TheVariants.{Begun}
use Rattle.tx_machine.specs.Representation.{version_of, IsKept}
use Rattle.tx_machine.specs.Keys.{IsDistinct}
use Rattle.tx_machine.proofs.CommitSteps.{no_fate}
use Rattle.tx_machine.proofs.Distinct.{some_changes, some_of, none_of, twice_not_distinct}
use Rattle.tx_machine.proofs.Steps.{declares}
use Rattle.tx_machine.proofs.machine.Machine.declare.Goals as goal

pub returns-clause-ok : goal.returns-clause-ok
returns-clause-ok c table tells =
    let there : tree.get nat_cmp c.args.self.now.stages c.args.t ≡ Some Begun =
    sym c.in-Some.ensures.value ∙ ap (λ (x : TxnStage). Some x) c.in-Begun.is in
    let open_ : tree.get nat_cmp c.args.self.now.fates c.args.t ≡ None =
    no_fate _ _ c.if-is_some.ensures c.get.ensures.value in
    let distinct = none_of _ _ c.if-is_some-2.ensures c.in_ok-repeated.ensures.once in
    declares c.args.self.now.last (tree.get nat_cmp c.args.self.now.stages) (tree.get nat_cmp c.args.self.now.fates)
    (version_of c.args.self.now.index) (IsKept c.args.self.now.index c.args.self.now.reads) table tells
    c.args.t c.args.set.now there open_
    (some_changes c.as_slice.result.now c.args.set.now c.as_slice.ensures (sym c.is_empty.ensures
    ∙ c.if-is_empty.false))
    (subst (λ (xs : List Change). IsDistinct xs) c.as_slice-2.ensures distinct)
    _ c.in_ok-stage-in-Begun.field-0 c.in_ok-stage-in-Begun.ensures.ok
    ((c.get_mut.follows.holds c.in_ok-stage-in-Begun.field-0).3 (rw there refl)).0

pub returns-then-is_some-2-clause-refused : goal.returns-then-is_some-2-clause-refused
returns-then-is_some-2-clause-refused c e table tells admits =
    let twice = some_of _ _ c.if-is_some-2.ensures c.in_ok-repeated.ensures.twice in
    twice_not_distinct c.as_slice-2.result.now _ twice.1
    (subst (λ (xs : List Change). IsDistinct xs) (sym c.as_slice-2.ensures) admits.2)
