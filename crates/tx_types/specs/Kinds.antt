-- The kinds of mutations.
use Rattle.tx_types.specs.declared.mutation.Mutation.{Mutation}
use Rattle.tx_types.specs.declared.mutation.Mutation.TheVariants as whole
use Rattle.tx_types.specs.declared.mutation.StoredMutation.{StoredMutation}
use Rattle.tx_types.specs.declared.mutation.StoredMutation.TheVariants as stored
use Rattle.tx_types.specs.declared.mutation.LockKind.{LockKind}
use Rattle.tx_types.specs.declared.mutation.LockKind.TheVariants as lock

-- the kind of the lock that a mutation takes
abbrev pub kind_of : Mutation → LockKind
kind_of (whole.Put v) = lock.Put
kind_of (whole.Insert v) = lock.Put
kind_of whole.Delete = lock.Delete
kind_of whole.Lock = lock.Lock

-- reads see puts and deletes, and no locks
abbrev pub IsSeenKind : LockKind → Type 0
IsSeenKind lock.Put = Unit {0}
IsSeenKind lock.Delete = Unit {0}
IsSeenKind lock.Lock = ⊥

-- a mutation as a lock and a commit record have it: an insert whose check has passed is a put
abbrev pub as_locked : Mutation → Mutation
as_locked (whole.Put v) = whole.Put v
as_locked (whole.Insert v) = whole.Put v
as_locked whole.Delete = whole.Delete
as_locked whole.Lock = whole.Lock

-- the same of a mutation as records keep it
abbrev pub stored_kind : StoredMutation → LockKind
stored_kind (stored.Put v) = lock.Put
stored_kind stored.Delete = lock.Delete
stored_kind stored.Lock = lock.Lock
