-- The pictures of docs/PROTOCOL.md: what each request there leaves, by computation.
use Rattle.std.proofs.Common.{◌≡◌, inl, inr, ℕ, ◌==◌, Bool, true, false, cond, List, [], ◌∷◌, Option, Some, None, refl, arith}
use Rattle.tx_types.specs.declared.key.Key.{Key}
use Rattle.tx_types.specs.declared.value.Value.{Value}
use Rattle.tx_types.specs.declared.mutation.KeyValue.{KeyValue}
use Rattle.tx_types.specs.declared.mutation.Mutation.TheVariants as mutation
use Rattle.tx_types.specs.declared.mutation.Mode.TheVariants.{TwoPhase, Async}
use Rattle.tx_types.specs.declared.mutation.Fate.TheVariants as fate
use Rattle.tx_plan.specs.declared.body.Scan.{Scan}
use Rattle.tx_plan.specs.declared.body.Prewrite.{Prewrite}
use Rattle.tx_plan.specs.declared.body.Body.{Body}
use Rattle.tx_plan.specs.declared.body.Body.TheVariants as body
use Rattle.tx_plan.specs.declared.answer.Answer.{Answer}
use Rattle.tx_plan.specs.declared.answer.Answer.TheVariants as answer
use Rattle.tx_plan.specs.Cells.{Lock, Write, CommitOf, Rollback, Writes, Cells, Region, info_of}
use Rattle.tx_plan.specs.Reads.{covered}
use Rattle.tx_plan.specs.Answers.{AnswersFrom, leaves}
use Rattle.tx_plan.specs.cases.Collect.{keeps}

abbrev a : Key
a = 97 ∷ []

abbrev c : Key
c = 99 ∷ []

abbrev d : Key
d = 100 ∷ []

abbrev x : Value
x = 120 ∷ []

-- the lock `put x by t, min m`, with the time to live 10 or another
abbrev lock_for : ℕ → ℕ → ℕ → Lock
lock_for ttl t m = record {
  mutation = mutation.Put x;
  mode = TwoPhase;
  secondaries = [];
  start = t;
  min = m;
  ttl =
      ttl;
  primary = a;
}

abbrev lock : ℕ → ℕ → Lock
lock = lock_for 10

-- the record `put x by t`, marked or not
abbrev put : ℕ → Bool → Write
put t mark = CommitOf record { mutation = mutation.Put x; start = t; overlapped_rollback = mark }

-- no records, and one record
abbrev none : Writes
none q = None

abbrev only : ℕ → Write → Writes
only at rec q = cond (at == q) (Some rec) None

-- a region with this on the key a, where 4 was read
abbrev before : Option Lock → Writes → Region
before standing write =
    record { cells = λ k. record { lock = standing; write = write }; max_read = 4; safe = 0; collected = 0 }

-- what a request leaves on the key a
abbrev after : Option Lock → Writes → Body → Answer → Cells
after standing write b answered = (leaves (before standing write) b answered).cells a

-- ---- Commit: the rollback that stood there becomes the mark

abbrev commit : Cells
commit = after (Some (lock 1 2)) (only 2 Rollback) (body.Commit record { key = a; start = 1; commit = 2 })
    (answer.Committed 2)

pub commit_removes_lock : commit.lock ≡ None
commit_removes_lock = refl

pub commit_keeps_rollback_as_mark : commit.write 2 ≡ Some (put 1 true)
commit_keeps_rollback_as_mark = refl

pub commit_is_answered :
    AnswersFrom 4 (before (Some (lock 1 2)) (only 2 Rollback)) 5 (body.Commit record { key = a; start = 1; commit = 2 })
    (answer.Committed 2)
commit_is_answered = inr (
  λ h. omega arith,
  inl (_, record { stands = refl; own = refl }, inr (λ h. omega arith, inr (λ rec h. (cc (h.stands)), refl))),
)

-- ---- BatchRollback: another's commit record is marked; an own lock goes; another's lock stays

abbrev roll_back_two : Body
roll_back_two = body.BatchRollback record { key = a; start = 2 }

pub rollback_marks_commit : (after None (only 2 (put 1 false)) roll_back_two answer.RolledBack).write 2
    ≡ Some (put 1 true)
rollback_marks_commit = refl

pub rollback_removes_own_lock : (after (Some (lock 2 3)) none roll_back_two answer.RolledBack).lock ≡ None
rollback_removes_own_lock = refl

pub rollback_is_left : (after (Some (lock 2 3)) none roll_back_two answer.RolledBack).write 2 ≡ Some Rollback
rollback_is_left = refl

pub rollback_leaves_others_lock : (after (Some (lock 4 5)) none roll_back_two answer.RolledBack).lock ≡ Some (lock 4 5)
rollback_leaves_others_lock = refl

-- ---- TxnHeartBeat, CheckTxnStatus, CheckSecondaryLocks, ResolveLock

pub heartbeat_lengthens :
    (after (Some (lock 1 2)) none (body.TxnHeartBeat record { key = a; start = 1; ttl = 20 }) (answer.Ttl 20)).lock
    ≡ Some (lock_for 20 1 2)
heartbeat_lengthens = refl

abbrev check : Body
check = body.CheckTxnStatus record {
  key = a;
  start = 1;
  caller = 3;
  current = 5;
  rollback_if_not_exist =
      false;
  force_sync_commit = false;
}

pub check_pushes : (after (Some (lock 1 2)) none check (answer.Locked (info_of a (lock 1 4)))).lock ≡ Some (lock 1 4)
check_pushes = refl

pub check_is_answered : AnswersFrom 4 (before (Some (lock 1 2)) none) 5 check (answer.Locked (info_of a (lock 1 4)))
check_is_answered = inr (
  λ h. omega arith,
  inr (
    λ h. omega arith,
    inl (
      _,
      record { stands = refl; own = refl },
      inr (λ h. (cc (h.0)), inr (λ h. omega arith, inl (omega arith, refl))),
    ),
  ),
)

pub missing_is_left : (after None none (body.CheckSecondaryLocks record { key = a; start = 1 }) answer.Missing).write 1
    ≡ Some Rollback
missing_is_left = refl

abbrev resolve : Cells
resolve = after (Some (lock 1 2)) none (body.ResolveLock record { key = a; start = 1; fate = fate.Committed 3 })
    answer.Resolved

pub resolve_removes_lock : resolve.lock ≡ None
resolve_removes_lock = refl

pub resolve_commits : resolve.write 3 ≡ Some (put 1 false)
resolve_commits = refl

-- ---- Prewrite: 4 was read, so the minimum is 5; where that is too much, the key falls back

abbrev prewrite : Option ℕ → Prewrite
prewrite max_commit =
    record {
      key = a;
      mutation = mutation.Put x;
      start = 3;
      primary = a;
      mode = Async;
      max_commit = max_commit;
      floor =
          0;
      ttl = 10;
      others = [];
    }

pub prewrite_locks : (after None (only 2 (put 1 false)) (body.Prewrite (prewrite None)) (answer.Prewritten 5)).lock
    ≡ Some record {
      mutation = mutation.Put x;
      mode = Async;
      secondaries = [];
      start = 3;
      min = 5;
      ttl = 10;
      primary =
          a;
    }
prewrite_locks = refl

pub prewrite_falls_back :
    (after None (only 2 (put 1 false)) (body.Prewrite (prewrite (Some 4))) (answer.Prewritten 0)).lock ≡ Some (lock 3 4)
prewrite_falls_back = refl

-- ---- Get and Scan

pub get_raises : (leaves (before None none) (body.Get record { key = a; at = 7; bypass = [] }) answer.Nothing).max_read
    ≡ 7
get_raises = refl

-- rows of a and c, of a scan up to but not including e
abbrev rows : List KeyValue
rows = record { key = a; value = x } ∷ record { key = c; value = x } ∷ []

abbrev scan : ℕ → Scan
scan limit = record { from = a; to = 101 ∷ []; at = 4; limit = limit; bypass = [] }

pub full_scan_covers_last_row : covered (scan 2) rows c ≡ true
full_scan_covers_last_row = refl

pub full_scan_ends_there : covered (scan 2) rows d ≡ false
full_scan_ends_there = refl

pub other_scan_covers_range : covered (scan 3) rows d ≡ true
other_scan_covers_range = refl

-- ---- Collect at 5

abbrev records : Writes
records q = cond (5 == q) (Some Rollback) (cond (4 == q) (Some (put 3 false)) (only 2 (put 1 false) q))

pub rollback_at_safe_point_stays : keeps records 5 5 ≡ true
rollback_at_safe_point_stays = refl

pub newest_put_stays : keeps records 5 4 ≡ true
newest_put_stays = refl

pub older_put_goes : keeps records 5 2 ≡ false
older_put_goes = refl

pub put_under_one_at_safe_point_goes : keeps (λ q. cond (5 == q) (Some (put 4 false)) (only 3 (put 1 false) q)) 5 3
    ≡ false
put_under_one_at_safe_point_goes = refl

pub newest_delete_goes :
    keeps (only 4 (CommitOf record { mutation = mutation.Delete; start = 3; overlapped_rollback = false })) 5 4 ≡ false
newest_delete_goes = refl
