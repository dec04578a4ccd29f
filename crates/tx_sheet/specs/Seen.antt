-- What stands on a key, and what changed of it, as a picture shows them.
use Rattle.std.specs.Prelude.{◌≡◌, ℕ, Bool, true, false, List, [], map, Option, Some, None, option_map}
use Rattle.tx_types.specs.declared.mutation.LockKind.{LockKind}
use Rattle.tx_types.specs.declared.mutation.LockKind.TheVariants as lock
use Rattle.tx_types.specs.declared.mutation.Mode.{Mode}
use Rattle.tx_types.specs.declared.mutation.Mode.TheVariants.{TwoPhase, Async}
use Rattle.tx_plan.specs.declared.view.LockHead.{LockHead}
use Rattle.tx_plan.specs.declared.view.RecordHead.{RecordHead}
use Rattle.tx_plan.specs.declared.view.RecordHead.TheVariants as head
use Rattle.tx_cells.specs.declared.copies.RecordAt.{RecordAt}
use Rattle.tx_cells.specs.declared.copies.KeyVersions.{KeyVersions}
use Rattle.tx_sheet.specs.declared.key_state.Kind.{Kind}
use Rattle.tx_sheet.specs.declared.key_state.Kind.TheVariants as kind
use Rattle.tx_sheet.specs.declared.key_state.SeenLock.{SeenLock}
use Rattle.tx_sheet.specs.declared.key_state.SeenRecord.{SeenRecord}

-- what a lock or a record does
abbrev pub kind_of : LockKind → Kind
kind_of lock.Put = kind.Put
kind_of lock.Delete = kind.Delete
kind_of lock.Lock = kind.Lock

-- whether a lock is an async one
abbrev pub is_async : Mode → Bool
is_async TwoPhase = false
is_async Async = true

-- a lock as it is shown
abbrev pub lock_of : LockHead → SeenLock
lock_of l = record { kind = kind_of l.kind; start = l.start; minimum = l.min; is_async = is_async l.mode }

-- a write record as it is shown
abbrev pub record_at : ℕ → RecordHead → SeenRecord
record_at at (head.Commit k start mark) = record { at = at; kind = kind_of k; start = start; is_marked = mark }
record_at at head.Rollback = record { at = at; kind = kind.Rollback; start = at; is_marked = false }

abbrev pub record_of : RecordAt → SeenRecord
record_of r = record_at r.at r.head

-- the lock, and the write records, that stand on a key by what was shown of it last; none where
-- nothing was
abbrev pub lock_in : Option KeyVersions → Option SeenLock
lock_in None = None
lock_in (Some v) = option_map lock_of v.lock

abbrev pub records_in : Option KeyVersions → List SeenRecord
records_in None = []
records_in (Some v) = map record_of v.records

-- a lock is shown as another: it does the same, of the same transaction, with the same minimum
abbrev pub AreAlike : Option SeenLock → Option SeenLock → Type 0
AreAlike None None = Unit {0}
AreAlike (Some a) (Some b) = (a.kind ≡ b.kind) × (a.start ≡ b.start) × (a.minimum ≡ b.minimum)
AreAlike _ _ = ⊥
