-- The number that is noted of each key: that of the request that changed it last.
use Rattle.std.specs.Prelude.{ℕ, cond, bytes_eq}
use Rattle.tx_types.specs.declared.key.Key.{Key}
use Rattle.tx_plan.specs.declared.key_change.KeyChange.{KeyChange}
use Rattle.tx_plan.specs.declared.key_change.KeyChange.TheVariants.{Nothing}

-- the numbers after a key got this one
abbrev pub noted : (Key → ℕ) → Key → ℕ → Key → ℕ
noted numbers key number q = cond (bytes_eq key q) number (numbers q)

-- the numbers after a change on a key, which gets this one where the change is one
abbrev pub noted_by : KeyChange → (Key → ℕ) → Key → ℕ → Key → ℕ
noted_by Nothing numbers key number = numbers
noted_by _ numbers key number = noted numbers key number
