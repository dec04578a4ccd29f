-- Values with too few or too many members.
use Rattle.std.proofs.Common.{◌≡◌, ◌≢◌, List, [], ◌∷◌, None, length, refl}
use Rattle.serde_json.specs.View.{items_view}
use Rattle.serde_json.specs.declared.value.Value.{Value}
use Rattle.tx_import.specs.Said.{op_of_items}

-- an operation has three members
pub no_op : (members : List Value) → length members ≢ 3 → op_of_items (items_view members) ≡ None
no_op [] a = refl
no_op (v ∷ []) a = refl
no_op (v ∷ w ∷ []) a = refl
no_op (v ∷ w ∷ x ∷ []) a = absurd (a refl)
no_op (v ∷ w ∷ x ∷ y ∷ more) a = refl
