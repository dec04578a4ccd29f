-- The table of a write buffer: the keys behind its first few.
use Rattle.std.specs.Prelude.{◌≡◌, ℕ, [], Option, None, Some, MatchOption, ⊤}
use Rattle.std.specs.Global.{Global}
use Rattle.std.specs.declared.boxed.Box.{Box}
use Rattle.tx_transaction.specs.declared.key_table.TableParts.{TableParts}
use Rattle.tx_transaction.specs.Buffers.{Entries}
use Rattle.tx_transaction.specs.Heads.{IsSettled}

-- its entries: none where it is not made yet
abbrev pub entries_in : Option (Box TableParts Global) → Entries
entries_in None = []
entries_in (Some b) = b.value.entries.entries

-- what is kept as settled is so
abbrev pub AreSettledIn : Option (Box TableParts Global) → Type 0
AreSettledIn None = ⊤
AreSettledIn (Some b) = IsSettled b.value.settled b.value.entries.entries

-- it is made, and has no entries and nothing settled
abbrev pub IsEmptyTable : Box TableParts Global → Type 0
IsEmptyTable b = (b.value.entries.entries ≡ []) × (b.value.settled.keys ≡ 0)
