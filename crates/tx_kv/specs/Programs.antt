-- Which clients a program has, and why its store is not opened.
use Rattle.std.specs.Prelude.{◌<◌, ◌+◌, ◌*◌, ℕ, zero, suc, List, [], ◌∷◌, ◌++◌}
use Rattle.tx_types.specs.declared.fault.Fault.TheVariants as fault
use Rattle.tx_kv.specs.declared.unopened.Unopened.{Unopened}
use Rattle.tx_kv.specs.declared.unopened.Unopened.TheVariants.{NotRising, TooMany, Refused}

-- the numbers below one, in their order
abbrev pub numbers_below : ℕ → List ℕ
numbers_below zero = []
numbers_below (suc n) = numbers_below n ++ n ∷ []

-- Why a store is not opened over regions with so many keys between them, for so many clients: two
-- of the keys do not rise; regions, and two seats a client and two more, are above 1,024; one of
-- the keys has no byte, or more than 512; or memory was refused.
abbrev pub IsUnopened : ℕ → ℕ → Unopened → Type 0
IsUnopened keys clients NotRising = 1 < keys
IsUnopened keys clients TooMany = 1024 < keys + 1 + (clients * 2 + 2)
IsUnopened keys clients (Refused fault.KeyLength) = 0 < keys
IsUnopened keys clients (Refused fault.OutOfMemory) = Unit {0}
IsUnopened keys clients (Refused f) = ⊥
