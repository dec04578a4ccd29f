-- The seats of a new store, behind the region's: the resolver's, and then a slot for each.
use Rattle.std.proofs.Common.{◌≡◌, ◌<◌, ◌+◌, ℕ, suc, List, [], ◌∷◌, map, length, slice_get, slice_index_or, drop, option_map, Some, sym, ap, ◌∙◌, arith}
use Rattle.std.proofs.lemmas.List.{length-map}
use Rattle.std.proofs.lemmas.Option.{slice_get-map}
use Rattle.tx_core.proofs.Basics.{some_same}
use Rattle.tx_journal.specs.Known.{Known}
use Rattle.tx_embed.specs.declared.client.Slot.TheVariants.{Idle}
use Rattle.tx_embed.specs.Acts.{SlotContent}
use Rattle.tx_embed.specs.Calls.{dealt}

-- the first of a list was taken
pub removed : {X : Type 0} (xs ys : List X) (x : X) → 0 < length xs → x ≡ slice_index_or xs 0 x → ys ≡ drop 1 xs
    → xs ≡ x ∷ ys
removed [] ys x some is rest = absurd (omega (arith, some))
removed (z ∷ zs) ys x some is rest = λ i. sym is i ∷ sym rest i

module _ (first resolver : Known) (rest : List Known) (count : ℕ)
    (each : (k : ℕ) → k < count → slice_get (first ∷ (resolver ∷ rest)) k ≡ Some (dealt k))
    (size : length rest + 2 ≡ count) where
  pub resolves : resolver ≡ dealt 1
  resolves = some_same resolver (dealt 1) (each 1 (omega (arith, size)))

  pub waits : (slots : List SlotContent) → slots ≡ map Idle rest → (n : ℕ) → n < length slots
      → slice_get slots n ≡ Some (Idle (dealt (2 + n)))
  waits slots is n lt =
      let shorter : length slots ≡ length rest = ap length is ∙ length-map rest Idle in
      let at : slice_get rest n ≡ Some (dealt (suc (suc n))) =
      each (suc (suc n)) (omega (arith, size, shorter, lt)) in
      let number : suc (suc n) ≡ 2 + n = omega arith in
      ap (λ (xs : List SlotContent). slice_get xs n) is ∙ (slice_get-map Idle rest n ∙ (ap (option_map Idle) at
      ∙ ap (λ j. Some (Idle (dealt j))) number))
