-- A session's write buffer: its keys in the order in which they were first touched, each with what
-- is done to it, and what was sent and answered for it.
use Rattle.std.specs.Prelude.{ℕ, ◌+◌, zero, suc, max, nat_lt, ◌||◌, ◌&&◌, Bool, true, false, not, cond, List, [], ◌∷◌, length, Option, Some, None, is_some, option_map, bytes_eq}
use Rattle.indexmap.specs.IndexMap.{insert_entry}
use Rattle.tx_types.specs.declared.limits.TheConstants.{MAX_KEYS}
use Rattle.tx_types.specs.Keys.{is_visible}
use Rattle.tx_types.specs.declared.key.Key.{Key}
use Rattle.tx_types.specs.declared.value.Value.{Value}
use Rattle.tx_types.specs.declared.mutation.Change.{Change}
use Rattle.tx_types.specs.declared.mutation.Mutation.{Mutation}
use Rattle.tx_types.specs.declared.mutation.Mutation.TheVariants as mutation
use Rattle.tx_transaction.specs.declared.state.Phase.{Phase}
use Rattle.tx_transaction.specs.declared.state.Phase.TheVariants as phase
use Rattle.tx_transaction.specs.declared.state.Progress.{Progress}
use Rattle.tx_transaction.specs.declared.state.BufferEntry.{BufferEntry}

abbrev pub Entries : Type 0
Entries = List (Key × BufferEntry)

-- ---- keys and what is done to them

-- nothing was sent yet
abbrev pub no_progress : Progress
no_progress = record { sent = false; accepted = None; committed = false; rolled = false }

abbrev pub fresh : Mutation → BufferEntry
fresh m = record { mutation = m; progress = no_progress }

-- what is done to a key, where it is in the buffer
abbrev pub buffered : Entries → Key → Option Mutation
buffered [] k = None
buffered (e ∷ es) k = cond (bytes_eq e.0 k) (Some e.1.mutation) (buffered es k)

-- a read of a key is answered from the buffer where a put, an insert or a delete of it is there
abbrev pub is_known : Option Mutation → Bool
is_known None = false
is_known (Some m) = is_visible m

-- what a put enters: an insert that is there stays one, with the new value
abbrev pub put_over : Option Mutation → Value → Mutation
put_over (Some (mutation.Insert w)) v = mutation.Insert v
put_over _ v = mutation.Put v

-- what an insert enters: an insert, and over a delete a put; nothing over a put or an insert, where
-- the key has a value
abbrev pub insert_over : Option Mutation → Value → Option Mutation
insert_over None v = Some (mutation.Insert v)
insert_over (Some mutation.Lock) v = Some (mutation.Insert v)
insert_over (Some mutation.Delete) v = Some (mutation.Put v)
insert_over (Some (mutation.Put w)) v = None
insert_over (Some (mutation.Insert w)) v = None

-- the buffer after a put, an insert or a delete: a key that is there keeps its place
abbrev pub touched : Entries → Key → Mutation → Entries
touched es k m = insert_entry bytes_eq es k (fresh m)

-- the buffer after an insert; none where the key has a value there
abbrev pub inserted : Entries → Key → Value → Option Entries
inserted es k v = option_map (touched es k) (insert_over (buffered es k) v)

-- the buffer after a lock: a mutation that is there stays
abbrev pub locked : Entries → Key → Entries
locked es k = cond (is_some (buffered es k)) es (touched es k mutation.Lock)

-- the key would be one too many
abbrev pub is_full : Entries → Key → Bool
is_full es k = not (is_some (buffered es k) || nat_lt (length es) MAX_KEYS)

abbrev pub not_empty : Entries → Bool
not_empty [] = false
not_empty (e ∷ es) = true

-- the write set
abbrev pub changes_of : Entries → List Change
changes_of [] = []
changes_of (e ∷ es) = record { key = e.0; mutation = e.1.mutation } ∷ changes_of es

abbrev pub keys_of : Entries → List Key
keys_of [] = []
keys_of (e ∷ es) = e.0 ∷ keys_of es

-- ---- indexes, counted from 0

abbrev pub key_at : Entries → ℕ → Key
key_at [] i = []
key_at (e ∷ es) zero = e.0
key_at (e ∷ es) (suc i) = key_at es i

abbrev pub mutation_in : Entries → ℕ → Mutation
mutation_in [] i = mutation.Lock
mutation_in (e ∷ es) zero = e.1.mutation
mutation_in (e ∷ es) (suc i) = mutation_in es i

abbrev pub progress_at : Entries → ℕ → Progress
progress_at [] i = no_progress
progress_at (e ∷ es) zero = e.1.progress
progress_at (e ∷ es) (suc i) = progress_at es i

abbrev pub with_progress : Entries → ℕ → Progress → Entries
with_progress [] i p = []
with_progress (e ∷ es) zero p = (e.0, record e.1 { progress = p }) ∷ es
with_progress (e ∷ es) (suc i) p = e ∷ with_progress es i p

-- whether the phase has something left to send of a key: a prewrite until one is accepted, a commit
-- until one is answered as committed, a rollback of what was sent until one is known to stand
abbrev pub wants : Phase → Progress → Bool
wants phase.Prewrite p = not (is_some p.accepted)
wants phase.Commit p = not p.committed
wants phase.Abort p = p.sent && not p.rolled

abbrev pub index_from : ℕ → Phase → Entries → Option ℕ
index_from n x [] = None
index_from n x (e ∷ es) = cond (wants x e.1.progress) (Some n) (index_from (n + 1) x es)

-- the index of the first such key
abbrev pub first_index : Phase → Entries → Option ℕ
first_index x es = index_from 0 x es

-- ---- what was accepted

-- whether some key has a two-phase lock
abbrev pub is_zero : Option ℕ → Bool
is_zero None = false
is_zero (Some zero) = true
is_zero (Some (suc m)) = false

abbrev pub has_two_phase_lock : Entries → Bool
has_two_phase_lock [] = false
has_two_phase_lock (e ∷ es) = is_zero e.1.progress.accepted || has_two_phase_lock es

-- the minimum of an async lock
abbrev pub async_minimum : Option ℕ → Option ℕ
async_minimum None = None
async_minimum (Some zero) = None
async_minimum (Some (suc m)) = Some (suc m)

-- the greatest of n and the minimums of the async locks, if each key has one
abbrev pub promised_from : ℕ → Entries → Option ℕ
promised_from n [] = Some n
promised_from n (e ∷ es) = elim (async_minimum e.1.progress.accepted) [
  | None ↦ None
  | Some m ↦ promised_from
      (max n m) es
]

-- the greatest minimum, where each key has an async lock
abbrev pub promised : Entries → Option ℕ
promised [] = None
promised (e ∷ es) = promised_from 0 (e ∷ es)
