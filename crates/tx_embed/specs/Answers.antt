-- What is said, as a number and as bytes.
use Rattle.std.specs.Prelude.{ℕ, List, [], ◌++◌, length, drop, nat_le, if◌then◌else◌}
use Rattle.std.specs.Int.{to_le_bytes, w16, w64}
use Rattle.tx_types.specs.declared.fault.Fault.{Fault}
use Rattle.tx_types.specs.declared.fault.Fault.TheVariants as fault
use Rattle.tx_types.specs.declared.mutation.KeyValue.{KeyValue}
use Rattle.tx_update.specs.declared.stops.Stop.{Stop}
use Rattle.tx_update.specs.declared.stops.Stop.TheVariants as stop
use Rattle.tx_embed.specs.declared.answer.Said.{Said}
use Rattle.tx_embed.specs.declared.answer.Said.TheVariants as said

abbrev pub fault_code : Fault → ℕ
fault_code fault.OutOfMemory = 20
fault_code fault.KeyLength = 21
fault_code fault.ValueLength = 22
fault_code fault.TooManyKeys = 23
fault_code fault.OracleSpent = 24
fault_code _ = 25

abbrev pub stop_code : Stop → ℕ
stop_code (stop.Waits key why) = 10
stop_code (stop.Conflict key) = 11
stop_code stop.RolledBack = 12
stop_code (stop.AlreadyExists key) = 13
stop_code stop.BelowSafePoint = 14
stop_code stop.Lost = 15
stop_code (stop.Refused f) = fault_code f

-- the number of what is said
abbrev pub code_of : Said → ℕ
code_of said.Done = 0
code_of said.Absent = 1
code_of (said.Found v) = 0
code_of (said.Row r) = 0
code_of (said.Committed at) = 0
code_of said.ReadOnly = 2
code_of said.Unknown = 3
code_of (said.Stopped s) = stop_code s
code_of said.Spent = 24
code_of said.Busy = 4
code_of said.NoTransaction = 5
code_of said.Misused = 6

-- the key that is in the way
abbrev pub stop_bytes : Stop → List ℕ
stop_bytes (stop.Waits key why) = key
stop_bytes (stop.Conflict key) = key
stop_bytes (stop.AlreadyExists key) = key
stop_bytes _ = []

-- a row: its key's length in two bytes, the lesser first, its key, and its value
abbrev pub row_bytes : KeyValue → List ℕ
row_bytes r = to_le_bytes w16 (length r.key) ++ r.key ++ r.value

-- what is told of what is said
abbrev pub said_bytes : Said → List ℕ
said_bytes (said.Found v) = v
said_bytes (said.Row r) = row_bytes r
said_bytes (said.Committed at) = to_le_bytes w64 at
said_bytes (said.Stopped s) = stop_bytes s
said_bytes _ = []

-- bytes over the first of others, where they fit
abbrev pub laid_over : List ℕ → List ℕ → List ℕ
laid_over text old = if nat_le (length text) (length old) then text ++ drop (length text) old else old
