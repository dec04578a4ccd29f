-- What stands on an account, and what a transfer leaves of two of them.
use Rattle.std.specs.Prelude.{ℕ, ◌+◌, ◌-◌, ◌&&◌, List, Bool, length, nat_le, nat_lt, Option, Some, None, if◌then◌else◌}
use Rattle.std.specs.List.{list_all}
use Rattle.std.specs.Char.{is_ascii_digit}
use Rattle.std.specs.Str.Parse.{digits_value}
use Rattle.tx_transfer.specs.declared.balance.TheConstants.{MAX_DIGITS, BALANCES}

-- a text of 1 to 15 decimal digits
abbrev pub is_balance : List ℕ → Bool
is_balance text = nat_lt 0 (length text) && nat_le (length text) MAX_DIGITS && list_all is_ascii_digit text

-- the number that it says; anything else says 0
abbrev pub balance_of : List ℕ → ℕ
balance_of text = if is_balance text then digits_value 10 text else 0

-- the amount goes from the first to the second, where the first has it and the second's sum has
-- at most 15 digits
abbrev pub after_transfer : ℕ → ℕ → ℕ → Option (ℕ × ℕ)
after_transfer from to amount =
    if nat_le amount from && nat_lt (to + amount) BALANCES then Some (from - amount, to + amount) else None
