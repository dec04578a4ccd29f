-- Records with the mutations that they keep, whole.
use Rattle.std.specs.Prelude.{ℕ, Bool}
use Rattle.tx_types.specs.declared.mutation.Mutation.{Mutation}
use Rattle.tx_types.specs.declared.lock.LockRec.{LockRec}
use Rattle.tx_types.specs.declared.write.WriteRec.{WriteRec}
use Rattle.tx_types.specs.declared.write.WriteRec.TheVariants as stored
use Rattle.tx_types.specs.Locks.{mode_of, secondaries_of}
use Rattle.tx_plan.specs.Cells.{Lock, Write, CommitOf, Rollback}

-- a commit record of this mutation
abbrev pub whole_commit : Mutation → ℕ → Bool → Write
whole_commit whole start overlapped = CommitOf (record {
  mutation = whole;
  start = start;
  overlapped_rollback = overlapped;
})

-- the write record that keeps this mutation
abbrev pub whole_write : WriteRec → Mutation → Write
whole_write (stored.Commit rec) whole = whole_commit whole rec.start rec.overlapped_rollback
whole_write (stored.Rollback start) whole = Rollback

-- the lock that keeps this mutation
abbrev pub whole_lock : LockRec → Mutation → Lock
whole_lock rec whole = record {
  mutation = whole;
  mode = mode_of rec.mode;
  secondaries = secondaries_of rec.mode;
  start = rec.start;
  min = rec.min;
  ttl = rec.ttl;
  primary = rec.primary;
}
