-- What a record keeps of a value.
use Rattle.std.specs.Prelude.{List, ℕ, cond, length, nat_lt}
use Rattle.tx_types.specs.declared.limits.TheConstants.{MAX_INLINE_BYTES}
use Rattle.tx_types.specs.declared.value.StoredValue.{StoredValue}
use Rattle.tx_types.specs.declared.value.StoredValue.TheVariants.{Inline, InDefault}

-- a value of more than 255 bytes is kept apart, another one in the record
abbrev pub stored_value : List ℕ → StoredValue
stored_value v = cond (nat_lt MAX_INLINE_BYTES (length v)) InDefault (Inline v)
