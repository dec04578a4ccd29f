-- The keys between regions, as a test.
use Rattle.std.specs.Prelude.{◌&&◌, Bool, true, List, [], ◌∷◌}
use Rattle.tx_types.specs.declared.key.Key.{Key}
use Rattle.tx_types.specs.Keys.{key_lt}

-- each key is below the one after it
abbrev pub are_rising : List Key → Bool
are_rising [] = true
are_rising (k ∷ []) = true
are_rising (j ∷ k ∷ ks) = key_lt j k && are_rising (k ∷ ks)
