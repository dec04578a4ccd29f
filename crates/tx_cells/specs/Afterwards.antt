-- What changes make of what families hold of a key.
use Rattle.std.specs.Prelude.{◌≡◌, ◌≢◌, ◌⊎◌, ℕ, ◌==◌, Bool, true, cond, Option, Some, None}
use Rattle.tx_types.specs.declared.key.Key.{Key}
use Rattle.tx_types.specs.declared.value.Value.{Value}
use Rattle.tx_types.specs.declared.mutation.Mutation.{Mutation}
use Rattle.tx_types.specs.declared.mutation.Mutation.TheVariants as mutation
use Rattle.tx_types.specs.declared.mutation.Mode.TheVariants as how
use Rattle.tx_types.specs.declared.mutation.StoredMutation.{StoredMutation}
use Rattle.tx_types.specs.declared.mutation.StoredMutation.TheVariants as stored
use Rattle.tx_types.specs.declared.value.StoredValue.TheVariants.{Inline, InDefault}
use Rattle.tx_types.specs.declared.lock.LockMode.{LockMode}
use Rattle.tx_types.specs.declared.lock.LockMode.TheVariants.{TwoPhase, Async}
use Rattle.tx_types.specs.declared.lock.LockRec.{LockRec}
use Rattle.tx_types.specs.declared.write.CommitRec.{CommitRec}
use Rattle.tx_types.specs.declared.write.WriteRec.{WriteRec}
use Rattle.tx_types.specs.declared.write.WriteRec.TheVariants.{Commit, Rollback}
use Rattle.tx_plan.specs.declared.body.Prewrite.{Prewrite}
use Rattle.tx_plan.specs.declared.key_change.KeyChange.{KeyChange}
use Rattle.tx_plan.specs.declared.key_change.KeyChange.TheVariants as change
use Rattle.tx_plan.specs.declared.key_change.Left.{Left}
use Rattle.tx_plan.specs.declared.key_change.Left.TheVariants as left
use Rattle.tx_plan.specs.declared.key_change.NewLock.{NewLock}
use Rattle.tx_plan.specs.Cells.{is_long}
use Rattle.tx_plan.specs.cases.Collect.{keeps}
use Rattle.tx_cells.specs.Contents.{OnKey, Content, cells_of, LockKeeps, WriteKeeps}

-- one key holds this afterwards, and all others what they held
pub record OnlyOn (key : Key) (on_key : OnKey) (before after : Content) : Type 0 where
  pub here : after key ≡ on_key
  pub others : (k : Key) → k ≢ key → after k ≡ before k

abbrev pub with_lock : OnKey → Option LockRec → OnKey
with_lock x lock = record { lock = lock; write = x.write; value = x.value }

-- ---- a lock that is put

-- a mutation as its record keeps it: a long value apart, an insert as a put
abbrev pub stored_of : Mutation → StoredMutation
stored_of (mutation.Put v) = stored.Put (cond (is_long (mutation.Put v)) InDefault (Inline v))
stored_of (mutation.Insert v) = stored.Put (cond (is_long (mutation.Put v)) InDefault (Inline v))
stored_of mutation.Delete = stored.Delete
stored_of mutation.Lock = stored.Lock

-- the value that is kept apart
abbrev pub apart_of : Mutation → Option Value
apart_of (mutation.Put v) = cond (is_long (mutation.Put v)) (Some v) None
apart_of (mutation.Insert v) = cond (is_long (mutation.Put v)) (Some v) None
apart_of mutation.Delete = None
apart_of mutation.Lock = None

-- the record of the lock that a prewrite puts
abbrev pub mode_put : Prewrite → NewLock → LockMode
mode_put b new = elim new.mode [ how.TwoPhase ↦ TwoPhase | how.Async ↦ Async b.others ]

abbrev pub lock_put : Prewrite → NewLock → LockRec
lock_put b new = record {
  mutation = stored_of b.mutation;
  mode = mode_put b new;
  start = b.start;
  min = new.min;
  ttl = b.ttl;
  primary = b.primary;
}

-- values with one more at t, if there is one
abbrev pub with_value : (ℕ → Option Value) → ℕ → Option Value → ℕ → Option Value
with_value value t None = value
with_value value t (Some v) = λ q. cond (t == q) (Some v) (value q)

abbrev pub put_on : OnKey → Prewrite → NewLock → OnKey
put_on x b new = record {
  lock = Some (lock_put b new);
  write = x.write;
  value = with_value x.value b.start (apart_of b.mutation);
}

-- ---- other changes

-- what f makes of a key where there is a lock; else it stays
abbrev pub on_lock : OnKey → (LockRec → OnKey) → OnKey
on_lock x f = elim x.lock [ None ↦ x | Some rec ↦ f rec ]

-- write records with another at c
abbrev pub with_record : (ℕ → Option WriteRec) → ℕ → WriteRec → ℕ → Option WriteRec
with_record write c rec = λ q. cond (c == q) (Some rec) (write q)

-- values without the one at t
abbrev pub without_value : (ℕ → Option Value) → ℕ → ℕ → Option Value
without_value value t = λ q. cond (t == q) None (value q)

-- a lock record with another time to live, or another minimum
abbrev pub with_ttl : LockRec → ℕ → LockRec
with_ttl rec ttl = record {
  mutation = rec.mutation;
  mode = rec.mode;
  start = rec.start;
  min = rec.min;
  ttl = ttl;
  primary = rec.primary;
}

abbrev pub with_min : LockRec → ℕ → LockRec
with_min rec min = record {
  mutation = rec.mutation;
  mode = rec.mode;
  start = rec.start;
  min = min;
  ttl = rec.ttl;
  primary = rec.primary;
}

-- the commit record that a lock becomes
abbrev pub commit_of : LockRec → Bool → CommitRec
commit_of rec overlapped = record { mutation = rec.mutation; start = rec.start; overlapped_rollback = overlapped }

-- a commit record with the mark
abbrev pub with_mark : CommitRec → CommitRec
with_mark rec = record { mutation = rec.mutation; start = rec.start; overlapped_rollback = true }

-- what is in a place, with the mark where it is a commit record
abbrev pub marked : Option WriteRec → Option WriteRec
marked None = None
marked (Some (Rollback start)) = Some (Rollback start)
marked (Some (Commit rec)) = Some (Commit (with_mark rec))

-- write records after the rollback of the transaction that started at t is left
abbrev pub after_left : (ℕ → Option WriteRec) → ℕ → Left → ℕ → Option WriteRec
after_left write t left.Already = write
after_left write t left.Record = with_record write t (Rollback t)
after_left write t left.Mark = λ q. cond (t == q) (marked (write q)) (write q)

-- What a change makes of a key. A lock is put by `put_on`, with the prewrite that asks for it. With
-- a lock that is rolled back goes the value that it keeps apart.
abbrev pub after : OnKey → KeyChange → OnKey
after x change.Nothing = x
after x (change.Lock new) = x
after x (change.Ttl ttl) = on_lock x (λ rec. with_lock x (Some (with_ttl rec ttl)))
after x (change.Minimum min) = on_lock x (λ rec. with_lock x (Some (with_min rec min)))
after x (change.Commit c overlapped) = on_lock x (λ rec. record {
  lock = None;
  write = with_record x.write c (Commit (commit_of rec overlapped));
  value = x.value;
})
after x (change.RollBack t removes_lock left) = record {
  lock = cond removes_lock None x.lock;
  write = after_left x.write t left;
  value = cond removes_lock (without_value x.value t) x.value;
}

-- ---- collection

-- Below the safe point the records go that no read needs any more, and with each the value
-- that it keeps apart.
pub record Collected (safe : ℕ) (before after : OnKey) : Type 0 where
  pub lock : after.lock ≡ before.lock
  pub write : (q : ℕ) → after.write q ≡ cond (keeps (cells_of before).write safe q) (before.write q) None
  pub kept : (t : ℕ) → LockKeeps after.lock t ⊎ WriteKeeps after.write t → after.value t ≡ before.value t
  pub gone : (t : ℕ) → (LockKeeps after.lock t ⊎ WriteKeeps after.write t → ⊥) → after.value t ≡ None
