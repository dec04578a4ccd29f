use Rattle.std.proofs.Common.{◌≡◌, ◌<◌, ◌+◌, ◌++◌, [], ◌∷◌, List, Some, length, take, take-suc, sym, ap, ◌∙◌, arith}
use Rattle.std.proofs.Math.Numerals.{add-one}
use Rattle.tx_types.specs.declared.mutation.Change.{Change}
use Rattle.tx_types.specs.declared.mutation.KeyValue.{KeyValue}
use Rattle.tx_update.specs.Ranges.{is_in_range}
use Rattle.tx_update.proofs.Entries.{entered_step, passed_step_later, passed_step_outside, passed_step_unseen}
use Rattle.tx_update.proofs.rows.enter_over.Goals.{then-is_visible+then-contains+then-not-is_entered+in_ok-clone+in_ok-value_of+in_ok-set_value, else-is_visible, else-is_visible-via-then-is_visible+then-contains+else-not-is_entered, else-is_visible-via-then-is_visible+else-contains, else-is_visible-via-else-is_visible}
use Rattle.tx_update.proofs.rows.enter_over.Goals as goal

pub loop-i-preserved : goal.loop-i-preserved
loop-i-preserved c =
    let test = is_in_range (Some c.args.range.now.from) c.args.range.now.to in
    let changes : List Change = c.args.changes.now in
    let old : List KeyValue = c.args.rows.now.items in
    let new : List KeyValue = c.loop-i.rows.items in
    let change : Change = c.index-changes-i.result in
    let lt : c.loop-i.i < length changes = omega arith in
    let seam : take (c.loop-i.i + 1) changes ≡ take c.loop-i.i changes ++ change ∷ [] =
    ap (λ n. take n changes) (add-one c.loop-i.i) ∙ take-suc changes c.loop-i.i change lt
    ∙ ap (λ (x : Change). take c.loop-i.i changes ++ x ∷ []) (sym c.index-changes-i.is) in
    elim c.if-is_visible.branch [
      | then-is_visible+then-contains+then-not-is_entered+in_ok-clone+in_ok-value_of+in_ok-set_value w ↦
          entered_step test old new c.if-is_visible.rows.items (take c.loop-i.i changes)
          (take (c.loop-i.i + 1) changes) change w.in_ok-clone.field-0 w.in_ok-value_of.field-0 seam
          c.loop-i.invariant (sym c.is_visible.ensures.test ∙ w.if-is_visible.true)
          (sym w.contains.ensures ∙ w.if-contains.true) (sym w.is_entered.ensures ∙ w.if-not-is_entered.true)
          w.in_ok-clone.ensures.ok w.in_ok-value_of.ensures.ok
          (ap (λ v. v.items) w.rows-is ∙ w.in_ok-set_value.ensures.ok)
      | else-is_visible w ↦ elim w.else-is_visible.branch [
        | else-is_visible-via-then-is_visible+then-contains+else-not-is_entered v ↦
            passed_step_later test old new c.if-is_visible.rows.items (take c.loop-i.i changes)
            (take (c.loop-i.i + 1) changes) change seam c.loop-i.invariant
            (sym v.is_entered.ensures ∙ v.if-not-is_entered.false) (ap (λ x. x.items) w.rows-is)
        | else-is_visible-via-then-is_visible+else-contains v ↦
            passed_step_outside test old new c.if-is_visible.rows.items (take c.loop-i.i changes)
            (take (c.loop-i.i + 1) changes) change seam c.loop-i.invariant
            (sym v.contains.ensures ∙ v.if-contains.false) (ap (λ x. x.items) w.rows-is)
        | else-is_visible-via-else-is_visible v ↦
            passed_step_unseen test old new c.if-is_visible.rows.items (take c.loop-i.i changes)
            (take (c.loop-i.i + 1) changes) change seam c.loop-i.invariant
            (sym c.is_visible.ensures.test ∙ v.if-is_visible.false) (ap (λ x. x.items) w.rows-is)
      ]
    ]
