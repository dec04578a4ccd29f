use Rattle.std.proofs.Common.{decimal, subst}
use Rattle.tx_types.specs.declared.key.Key.{Key}
use Rattle.tx_types.specs.declared.value.Value.{Value}
use Rattle.tx_transfer.specs.Steps.{Enters}
use Rattle.tx_transfer.proofs.Steps.{enters_or}
use Rattle.tx_transfer.proofs.changes.enter.Goals as goal

pub returns-clause-enters : goal.returns-clause-enters
returns-clause-enters g c =
    let old = c.args.session.now in
    let new = c.put.new.self in
    subst (λ (k : Key). Enters k (decimal c.args.balance) old c.put.result new) c.in_ok-clone.ensures.ok
    (subst (λ (v : Value). Enters c.in_ok-clone.field-0 v old c.put.result new) c.in_ok-value.ensures.ok
    (enters_or c.in_ok-clone.field-0 c.in_ok-value.value old new c.put.result c.put.ensures.ok c.put.ensures.same
    c.put.ensures.err))
