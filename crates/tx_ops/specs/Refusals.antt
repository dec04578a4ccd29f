-- What is refused of an edit before memory is asked for. Only this crate's own clauses cite it.
use Rattle.std.specs.Prelude.{◌≡◌, ℕ, Bool, true, false, List, Option, Some, None, Result, Ok, Err}
use Rattle.tx_types.specs.declared.fault.Cause.{Cause}
use Rattle.tx_types.specs.Lengths.{is_key}
use Rattle.tx_transaction.specs.Buffers.{is_full}
use Rattle.tx_transaction.specs.Sessions.{SessionState, is_declared}
use Rattle.tx_reply.specs.declared.reply.ScriptReply.{ScriptReply}
use Rattle.tx_ops.specs.Edits.{Edit, stops, says, changes}

-- a change of a key is not allowed, or this is said of it, or nothing is refused
abbrev pub Refuses : SessionState → List ℕ → Bool → Result (Option ScriptReply) Cause → Type 0
Refuses s key fits (Err cause) = (refused : List Bool) (more : Edit) → changes refused s key fits more ≡ stops cause
Refuses s key fits (Ok (Some said)) = (refused : List Bool) (more : Edit)
    → changes refused s key fits more ≡ says said refused
Refuses s key fits (Ok None) = (is_declared s ≡ false) × (is_key key ≡ true) × (fits ≡ true)
    × (is_full s.buffer key ≡ false)
