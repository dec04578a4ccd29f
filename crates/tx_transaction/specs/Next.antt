-- The next request of a transaction, and which key it is of.
use Rattle.std.specs.Prelude.{ℕ, cond, Option, Some, None, option_map}
use Rattle.tx_types.specs.declared.key.Key.{Key}
use Rattle.tx_transaction.specs.declared.state.Phase.{Phase}
use Rattle.tx_transaction.specs.declared.state.Phase.TheVariants as phase
use Rattle.tx_transaction.specs.declared.state.Due.{Due}
use Rattle.tx_transaction.specs.Buffers.{key_at, not_empty}
use Rattle.tx_transaction.specs.Sessions.{SessionState, has_primary, due_prewrite, due_commit, due_abort, abort_open}

-- the index of the key that a request is of
abbrev pub index_in : Option Due → Option ℕ
index_in o = option_map (λ (d : Due). d.index) o

-- the next request of a phase, where one is due
abbrev pub due : SessionState → Phase → Option Due
due s phase.Prewrite = due_prewrite s
due s phase.Commit = due_commit s
due s phase.Abort = due_abort s

-- the index of the key that it is of
abbrev pub due_index : SessionState → Phase → Option ℕ
due_index s x = index_in (due s x)

-- the index of what may decide
abbrev pub open_index : SessionState → Option ℕ
open_index s = index_in (abort_open s s.declared (not_empty s.buffer))

-- the key
abbrev pub due_key : SessionState → Phase → Option Key
due_key s x = option_map (key_at s.buffer) (due_index s x)

-- the primary, which heartbeats are of: the first key of a declared write set
abbrev pub primary_of : SessionState → Option Key
primary_of s = cond (has_primary s) (Some (key_at s.buffer 0)) None
