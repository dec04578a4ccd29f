use Rattle.std.proofs.Common.{◌≡◌, true, false, take, get_or, ap, sym, ◌∙◌, is_some}
use Rattle.tx_types.specs.declared.mutation.Change.{Change}
use Rattle.tx_machine.specs.Keys.{mutation_at}
use Rattle.tx_machine.proofs.Distinct.{any_key, distinct_snoc, stands_twice}
use Rattle.tx_machine.proofs.sets.compared.Goals as goal

pub returns-then-has_key-clause-twice : goal.returns-then-has_key-clause-twice
returns-then-has_key-clause-twice c =
    let before = take c.loop-at.at c.args.set.now in
    let again : is_some (mutation_at before (get_or c.args.set.now c.loop-at.at c.index-set-at.result).key) ≡ true =
    ap (λ (x : Change). is_some (mutation_at before x.key)) (sym c.index-set-at.is)
    ∙ (sym (any_key before c.index-set-at.result.key) ∙ (sym c.has_key.ensures ∙ c.if-has_key.true)) in
    stands_twice c.args.set.now c.loop-at.at c.index-set-at.result c.loop-at-test.true c.index-set-at.is again

pub loop-at-preserved : goal.loop-at-preserved
loop-at-preserved c =
    let before = take c.loop-at.at c.args.set.now in
    let first : is_some (mutation_at before (get_or c.args.set.now c.loop-at.at c.index-set-at.result).key) ≡ false =
    ap (λ (x : Change). is_some (mutation_at before x.key)) (sym c.index-set-at.is)
    ∙ (sym (any_key before c.index-set-at.result.key) ∙ (sym c.has_key.ensures ∙ c.if-has_key.false)) in
    distinct_snoc c.args.set.now c.loop-at.at c.index-set-at.result c.loop-at-test.true c.loop-at.invariant first
