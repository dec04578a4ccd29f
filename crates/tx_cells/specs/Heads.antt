-- What is asked of lock records and write records.
use Rattle.std.specs.Prelude.{ℕ, Bool, true, false, Option, Some, None}
use Rattle.tx_types.specs.Kinds.{stored_kind}
use Rattle.tx_types.specs.Locks.{mode_of}
use Rattle.tx_types.specs.declared.value.Value.{Value}
use Rattle.tx_types.specs.declared.value.StoredValue.{StoredValue}
use Rattle.tx_types.specs.declared.value.StoredValue.TheVariants.{Inline, InDefault}
use Rattle.tx_types.specs.declared.mutation.StoredMutation.{StoredMutation}
use Rattle.tx_types.specs.declared.mutation.StoredMutation.TheVariants.{Put, Delete, Lock}
use Rattle.tx_types.specs.declared.lock.LockRec.{LockRec}
use Rattle.tx_types.specs.declared.write.WriteRec.{WriteRec}
use Rattle.tx_types.specs.declared.write.WriteRec.TheVariants as stored
use Rattle.tx_plan.specs.declared.view.RecordHead.{RecordHead}
use Rattle.tx_plan.specs.declared.view.RecordHead.TheVariants as head
use Rattle.tx_plan.specs.declared.view.LockHead.{LockHead}
use Rattle.tx_plan.specs.declared.key_records.RecordKind.{RecordKind}

-- the head of a write record, and of a lock record
abbrev pub write_head : WriteRec → RecordHead
write_head (stored.Commit rec) = head.Commit (stored_kind rec.mutation) rec.start rec.overlapped_rollback
write_head (stored.Rollback start) = head.Rollback

abbrev pub lock_head : LockRec → LockHead
lock_head rec = record {
  start = rec.start;
  min = rec.min;
  ttl = rec.ttl;
  kind = stored_kind rec.mutation;
  mode = mode_of rec.mode;
}

-- whether a write record is a rollback
abbrev pub is_rollback : WriteRec → Bool
is_rollback (stored.Commit rec) = false
is_rollback (stored.Rollback start) = true

-- the start of the transaction of a write record
abbrev pub start_in : WriteRec → ℕ
start_in (stored.Commit rec) = rec.start
start_in (stored.Rollback start) = start

-- whether a write record has the mark
abbrev pub is_marked : WriteRec → Bool
is_marked (stored.Commit rec) = rec.overlapped_rollback
is_marked (stored.Rollback start) = false

-- whether a mutation puts a value that is kept apart from its record, in the `default` family
abbrev pub is_apart : StoredValue → Bool
is_apart (Inline v) = false
is_apart InDefault = true

abbrev pub keeps_apart : StoredMutation → Bool
keeps_apart (Put v) = is_apart v
keeps_apart Delete = false
keeps_apart Lock = false

-- the same of a write record
abbrev pub write_keeps_apart : WriteRec → Bool
write_keeps_apart (stored.Commit rec) = keeps_apart rec.mutation
write_keeps_apart (stored.Rollback start) = false

-- the value that a mutation puts and its record keeps inline
abbrev pub inline_of : StoredMutation → Option Value
inline_of (Put (Inline v)) = Some v
inline_of (Put InDefault) = None
inline_of Delete = None
inline_of Lock = None

-- the same of a write record
abbrev pub write_inline : WriteRec → Option Value
write_inline (stored.Commit rec) = inline_of rec.mutation
write_inline (stored.Rollback start) = None

-- what collection asks of a mutation, and of a write record
abbrev pub mutation_kind : StoredMutation → RecordKind
mutation_kind (Put v) = record { puts = true; is_seen = true; has_long_value = is_apart v }
mutation_kind Delete = record { puts = false; is_seen = true; has_long_value = false }
mutation_kind Lock = record { puts = false; is_seen = false; has_long_value = false }

abbrev pub record_kind : WriteRec → RecordKind
record_kind (stored.Commit rec) = mutation_kind rec.mutation
record_kind (stored.Rollback start) = record { puts = false; is_seen = false; has_long_value = false }
