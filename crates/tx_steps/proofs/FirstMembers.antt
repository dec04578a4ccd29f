-- What is left of the members of a line.
use Rattle.std.proofs.Common.{◌≡◌, ◌<◌, true, arith, suc, ◌==◌, List, [], ◌∷◌, length, refl, ap}
use Rattle.std.proofs.Math.Dec.{eqb-suc-zero}
use Rattle.serde_json.specs.View.{items_view}
use Rattle.serde_json.specs.declared.value.Value.{Value}
use Rattle.tx_text.specs.declared.part.Part.{Part}
use Rattle.tx_text.specs.Parts.{parts_items, count}
use Rattle.tx_types.specs.declared.key.Key.{Key}
use Rattle.tx_steps.specs.Bounds.{are_rising}
use Rattle.tx_steps.specs.Steps.{none_left}

-- none is left of an empty list
pub none_is : (ms : List Part) → (length ms == 0) ≡ none_left (parts_items ms)
none_is [] = refl
none_is (m ∷ ms) = eqb-suc-zero (length ms)

-- an array has as many members as its list of values
pub count_view : (vs : List Value) → count (items_view vs) ≡ length vs
count_view [] = refl
count_view (v ∷ vs) = ap suc (count_view vs)

-- fewer than two keys rise
pub few_rise : (ks : List Key) → length ks < 2 → true ≡ are_rising ks
few_rise [] few = refl
few_rise (k ∷ []) few = refl
few_rise (j ∷ k ∷ ks) few = absurd (omega (arith, few))
