-- Values with too few or too many members.
use Rattle.std.proofs.Common.{◌≡◌, ◌≢◌, ◌<◌, ◌⊎◌, inl, inr, List, [], ◌∷◌, None, length, refl, arith}
use Rattle.serde_json.specs.View.{items_view}
use Rattle.serde_json.specs.declared.value.Value.{Value}
use Rattle.tx_text.specs.declared.part.Part.{Part}
use Rattle.tx_text.specs.Parts.{parts_items}
use Rattle.tx_check.specs.MachineSteps.{change_of_items, row_of_items, step_of_items, step_beside_items}

-- a change has two or three members
pub no_change : (members : List Value) → length members ≢ 2 → length members ≢ 3
    → change_of_items (items_view members) ≡ None
no_change [] a b = refl
no_change (v ∷ []) a b = refl
no_change (v ∷ w ∷ []) a b = absurd (a refl)
no_change (v ∷ w ∷ x ∷ []) a b = absurd (b refl)
no_change (v ∷ w ∷ x ∷ y ∷ more) a b = refl

-- a row has two
pub no_row : (members : List Value) → length members ≢ 2 → row_of_items (items_view members) ≡ None
no_row [] a = refl
no_row (v ∷ []) a = refl
no_row (v ∷ w ∷ []) a = absurd (a refl)
no_row (v ∷ w ∷ x ∷ more) a = refl

-- a step has two, three, four or six
pub no_step : (members : List Part) → length members ≢ 2 → length members ≢ 3 → length members ≢ 4 → length members ≢ 6
    → step_of_items (parts_items members) ≡ None
no_step [] a b c d = refl
no_step (v ∷ []) a b c d = refl
no_step (v ∷ w ∷ []) a b c d = absurd (a refl)
no_step (v ∷ w ∷ x ∷ []) a b c d = absurd (b refl)
no_step (v ∷ w ∷ x ∷ y ∷ []) a b c d = absurd (c refl)
no_step (v ∷ w ∷ x ∷ y ∷ z ∷ []) a b c d = refl
no_step (v ∷ w ∷ x ∷ y ∷ z ∷ u ∷ []) a b c d = absurd (d refl)
no_step (v ∷ w ∷ x ∷ y ∷ z ∷ u ∷ t ∷ more) a b c d = refl

-- a number and what stands beside it are two
pub none_beside : (members : List Value) → (length members < 2) ⊎ (2 < length members)
    → step_beside_items (items_view members) ≡ None
none_beside [] far = refl
none_beside (v ∷ []) far = refl
none_beside (v ∷ w ∷ []) far =
    elim far [ inl few ↦ absurd (omega (arith, few)) | inr many ↦ absurd (omega (arith, many)) ]
none_beside (v ∷ w ∷ x ∷ more) far = refl
