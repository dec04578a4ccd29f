use Rattle.std.proofs.Common.{◌≡◌, get_or, ap, ◌∙◌, cond, true}
use Rattle.tx_types.specs.declared.key.Key.{Key}
use Rattle.tx_types.specs.declared.mutation.Change.{Change}
use Rattle.tx_machine.proofs.Distinct.{some_more}
use Rattle.tx_trace.specs.Pending.{has}
use Rattle.tx_trace.proofs.KeySets.{at}
use Rattle.tx_trace.proofs.pending.keys_of.Goals as goal

pub loop-change-preserved : goal.loop-change-preserved
loop-change-preserved c k =
    let key : c.in_ok-clone.field-0
    ≡ (get_or c.as_slice-change-items.result.now c.loop-change.change-index c.change-item.result).key =
    c.in_ok-clone.ensures.ok ∙ ap (λ (x : Change). x.key) c.change-item.is in
    c.in_ok-insert.ensures.updates.0 k
    ∙ (ap (λ (j : Key). cond (at j k) true (has c.loop-change.keys k)) key
    ∙ some_more c.as_slice-change-items.result.now c.loop-change.change-index c.change-item.result k
    (has c.loop-change.keys) c.loop-change-test.true c.loop-change.invariant)
