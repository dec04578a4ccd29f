-- What an edit of a session's buffer comes to: a put, an insert, a delete or a lock of a key. It is
-- a function of the session's state and of which growths are refused.
use Rattle.std.specs.Prelude.{◌≡◌, ◌⊎◌, ℕ, ◌++◌, not, Bool, true, false, List, [], ◌∷◌, length, nat_le, Option, Some, None, if◌then◌else◌, Result, Ok, Err}
use Rattle.tx_types.specs.declared.limits.TheConstants.{MAX_VALUE_BYTES}
use Rattle.tx_types.specs.declared.fault.Cause.{Cause}
use Rattle.tx_types.specs.declared.fault.Cause.TheVariants.{Order}
use Rattle.tx_types.specs.declared.mutation.Mutation.TheVariants as mutation
use Rattle.tx_types.specs.Lengths.{is_key}
use Rattle.tx_transaction.specs.Buffers.{Entries, touched, put_over, inserted, locked, buffered, is_full}
use Rattle.tx_transaction.specs.Sessions.{SessionState, is_declared}
use Rattle.tx_client.specs.Calls.{Seated, seated}
use Rattle.tx_reply.specs.declared.reply.ScriptReply.{ScriptReply}
use Rattle.tx_reply.specs.declared.reply.ScriptReply.TheVariants as reply

-- An edit is not allowed, and stops; or it says why the buffer stays as it was; or a buffer takes
-- the place of the session's. Behind what it comes to stand the refusals that are left.
pub data Edit : Type 0 where
  stops : (cause : Cause) → Edit
  says : (said : ScriptReply) (left : List Bool) → Edit
  enters : (buffer : Entries) (left : List Bool) → Edit

-- ---- want of memory:
-- the k-th growth that may be needed is refused where the k-th of a list says so.
-- A refusal by any other rule comes before it.

abbrev pub is_refused : List Bool → Bool
is_refused [] = false
is_refused (b ∷ refused) = b

abbrev pub later_of : List Bool → List Bool
later_of [] = []
later_of (b ∷ refused) = refused

-- ---- the edits

-- a value is of at most 65,536 bytes
abbrev pub is_value : List ℕ → Bool
is_value value = nat_le (length value) MAX_VALUE_BYTES

-- a buffer takes the place of the session's, where memory for it is not refused
abbrev pub grown : List Bool → Entries → Edit
grown refused buffer = if is_refused refused then says reply.OutOfMemory (later_of refused)
    else enters buffer (later_of refused)

module _ (refused : List Bool) (s : SessionState) where
  -- a change of a key before declare: what is refused of its key and value, and that the key is one
  -- too many, comes before want of memory
  abbrev pub changes : List ℕ → Bool → Edit → Edit
  changes key fits more =
      if is_declared s then stops Order
      else (if not (is_key key) then says reply.KeyLength refused
      else (if not fits then says reply.ValueLength refused
      else (if is_full s.buffer key then says reply.TooManyKeys refused
      else more)))

  -- a put, under which an insert stays one
  abbrev pub puts : List ℕ → List ℕ → Edit
  puts key value = changes key (is_value value)
      (grown refused (touched s.buffer key (put_over (buffered s.buffer key) value)))

  -- an insert is refused where the buffer has a value of the key
  abbrev pub inserts_by : Option Entries → Edit
  inserts_by None = says reply.AlreadyExists refused
  inserts_by (Some buffer) = grown refused buffer

  abbrev pub inserts : List ℕ → List ℕ → Edit
  inserts key value = changes key (is_value value) (inserts_by (inserted s.buffer key value))

  abbrev pub deletes : List ℕ → Edit
  deletes key = changes key true (grown refused (touched s.buffer key mutation.Delete))

  -- a lock, of a key that is not there
  abbrev pub locks : List ℕ → Edit
  locks key = changes key true (grown refused (locked s.buffer key))

-- ---- what became of a session

-- Some growths were refused, and whatever is refused after them the edit says this: it left the
-- session as it was, or the buffer that it enters in the place of its own. What is not allowed
-- leaves all as it was.
abbrev pub Edited : (List Bool → SessionState → Edit) → Result ScriptReply Cause → Seated → Seated → Type 0
Edited edit (Ok said) old new = (refused : List Bool)
    × (((new ≡ old) × ((later : List Bool) → edit (refused ++ later) old.state ≡ says said later))
    ⊎ ((said ≡ reply.Fine) × (new ≡ seated (record old.state { buffer = new.state.buffer }) old.seat)
    × ((later : List Bool) → edit (refused ++ later) old.state ≡ enters new.state.buffer later)))
Edited edit (Err cause) old new = (new ≡ old) × ((refused : List Bool) → edit refused old.state ≡ stops cause)
