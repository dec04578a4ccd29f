-- Keys that a test finds to rise do.
use Rattle.std.proofs.Common.{◌≡◌, ◌<◌, true, false, List, [], ◌∷◌, length, refl, arith}
use Rattle.std.proofs.lemmas.Bool.{and_parts}
use Rattle.tx_types.specs.declared.key.Key.{Key}
use Rattle.tx_types.specs.Keys.{key_lt, AreRising}
use Rattle.tx_kv.specs.Bounds.{are_rising}

pub rises : (ks : List Key) → are_rising ks ≡ true → AreRising ks
rises [] is = tt
rises (k ∷ []) is = tt
rises (j ∷ k ∷ ks) is =
    let (first, rest) = and_parts (key_lt j k) (are_rising (k ∷ ks)) is in (first, rises (k ∷ ks) rest)

-- fewer than two rise
pub few_rise : (ks : List Key) → length ks < 2 → true ≡ are_rising ks
few_rise [] few = refl
few_rise (k ∷ []) few = refl
few_rise (j ∷ k ∷ ks) few = absurd (omega arith)

-- those that do not are two at least
pub two_fall : (ks : List Key) → are_rising ks ≡ false → 1 < length ks
two_fall [] is = absurd (cc (is))
two_fall (k ∷ []) is = absurd (cc (is))
two_fall (j ∷ k ∷ ks) is = omega arith
