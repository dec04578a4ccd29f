use Rattle.std.proofs.Common.{◌≡◌, ◌<◌, ◌⊎◌, inl, inr, List, Option, Some, None, length, option_and_then, sym, ap, ◌∙◌, arith}
use Rattle.std.proofs.lemmas.Bool.{ltb-true, ltb-false}
use Rattle.serde_json.specs.Data.{Data}
use Rattle.serde_json.specs.Find.{as_array}
use Rattle.serde_json.specs.View.{view, items_view}
use Rattle.serde_json.specs.declared.value.Value.{Value}
use Rattle.tx_check.specs.MachineSteps.{step_beside, step_beside_items}
use Rattle.tx_check.proofs.Arity.{none_beside}
use Rattle.tx_check.proofs.checker.behind_number.Goals as goal
use Rattle.tx_check.proofs.checker.behind_number.Goals.{in_default-via-then-as_slice-lt2, in_default-via-else-as_slice-lt2+else-this-lt3}

-- what is not of two members
none_here : (d : Data) (members slice : List Value) → as_array d ≡ Some (items_view members) → slice ≡ members
    → (length slice < 2) ⊎ (2 < length slice) → step_beside d ≡ None
none_here d members slice is same far = ap (option_and_then step_beside_items)
    (is ∙ ap (λ ms. Some (items_view ms)) (sym same)) ∙ none_beside slice far

pub returns-in_default : goal.returns-in_default
returns-in_default c =
    let members = c.in_ok-as_array.field-0.now.items in
    let is : as_array (view c.args.value.now) ≡ Some (items_view members) =
    rw c.in_ok-as_array.was at (sym c.as_array.ensures) in
    elim c.in_default.branch [
      | in_default-via-then-as_slice-lt2 w ↦ none_here (view c.args.value.now) members c.as_slice.result.now is
          c.as_slice.ensures.value (inl (omega (arith, ltb-true, ltb-false)))
      | in_default-via-else-as_slice-lt2+else-this-lt3 w ↦ none_here (view c.args.value.now) members
          c.as_slice.result.now is c.as_slice.ensures.value (inr (omega (arith, ltb-true, ltb-false)))
    ]
