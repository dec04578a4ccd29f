-- The rules of a session: what is due of it, and how what came of a request changes it. All of them
-- are functions of its state.
use Rattle.std.specs.Prelude.{◌≡◌, ℕ, nat_lt, nat_eq, zero, suc, ◌&&◌, ◌||◌, not, Bool, true, false, cond, List, [], ◌∷◌, ◌++◌, length, Option, Some, None, Ok, Err, is_some}
use Rattle.std.specs.List.{list_any}
use Rattle.tx_types.specs.declared.limits.TheConstants.{MAX_ASYNC_KEYS}
use Rattle.tx_types.specs.declared.key.Key.{Key}
use Rattle.tx_types.specs.declared.lock.LockInfo.{LockInfo}
use Rattle.tx_types.specs.Locks.{async_min}
use Rattle.tx_types.specs.declared.mutation.Mode.{Mode}
use Rattle.tx_types.specs.declared.mutation.Mode.TheVariants.{TwoPhase, Async}
use Rattle.tx_types.specs.declared.mutation.Fate.{Fate}
use Rattle.tx_types.specs.declared.mutation.Fate.TheVariants as fate
use Rattle.tx_plan.specs.declared.body.Body.{Body}
use Rattle.tx_plan.specs.declared.body.Body.TheVariants as request
use Rattle.tx_plan.specs.declared.answer.Answer.{Answer}
use Rattle.tx_plan.specs.declared.answer.Answer.TheVariants as answer
use Rattle.tx_core.specs.Allowed.{floor_of}
use Rattle.tx_core.specs.Decisions.{fate_in}
use Rattle.tx_core.specs.declared.event.Declaration.{Declaration}
use Rattle.tx_core.specs.declared.event.Outcome.{Outcome}
use Rattle.tx_core.specs.declared.event.Outcome.TheVariants as outcome
use Rattle.tx_core.specs.declared.event.UnknownCause.{UnknownCause}
use Rattle.tx_core.specs.declared.event.UnknownCause.TheVariants as cause
use Rattle.tx_transaction.specs.declared.state.Terms.{Terms}
use Rattle.tx_transaction.specs.declared.state.Phase.{Phase}
use Rattle.tx_transaction.specs.declared.state.Phase.TheVariants as phase
use Rattle.tx_transaction.specs.declared.state.Progress.{Progress}
use Rattle.tx_transaction.specs.declared.state.Due.{Due}
use Rattle.tx_transaction.specs.declared.state.KeyRequest.{KeyRequest}
use Rattle.tx_transaction.specs.declared.state.KeyRequest.TheVariants as key_request
use Rattle.tx_transaction.specs.Returns.{Response}
use Rattle.tx_transaction.specs.declared.state.Miss.{Miss}
use Rattle.tx_transaction.specs.declared.state.Miss.TheVariants as miss
use Rattle.tx_transaction.specs.Buffers.{Entries, changes_of, keys_of, not_empty, key_at, mutation_in, progress_at, with_progress, first_index, has_two_phase_lock, promised}

-- The state of a session: its start, its write buffer, the terms that it declared, the number
-- that its declaration drew, the transactions that its reads pass by, the lock that last stood in
-- its way, its drawn commit timestamp, what it knows of the fate of its transaction, and why it
-- may not know it.
pub record SessionState : Type 0 where
  pub start : ℕ
  pub buffer : Entries
  pub declared : Option Terms
  pub placed : ℕ
  pub bypass : List ℕ
  pub met : Option LockInfo
  pub drawn : Option ℕ
  pub decision : Option Fate
  pub cause : Option UnknownCause

-- the state of a session that begins
abbrev pub begun : ℕ → SessionState
begun start = record {
  start = start;
  buffer = [];
  declared = None;
  placed = 0;
  bypass = [];
  met = None;
  drawn = None;
  decision = None;
  cause = None;
}

-- ---- what was declared

-- the buffer is fixed
abbrev pub is_declared : SessionState → Bool
is_declared s = is_some s.declared

-- something was declared: an empty buffer is no declaration
abbrev pub has_primary : SessionState → Bool
has_primary s = is_declared s && not_empty s.buffer

-- what a buffer declares under these terms, with the number that was drawn for it
abbrev pub declaration_of : ℕ → ℕ → Entries → Terms → Declaration
declaration_of start placed es terms = record {
  start = start;
  changes = changes_of es;
  mode = terms.mode;
  ttl = terms.ttl;
  max_commit = terms.max_commit;
  drawn = placed;
}

abbrev pub declaration : ℕ → ℕ → Entries → Terms → Option Declaration
declaration start placed [] terms = None
declaration start placed (e ∷ es) terms = Some (declaration_of start placed (e ∷ es) terms)

-- whether the buffer has more keys than these terms allow
abbrev pub exceeds : Entries → Terms → Bool
exceeds es terms = elim terms.mode [ TwoPhase ↦ false | Async ↦ nat_lt MAX_ASYNC_KEYS (length es) ]

-- a declared buffer has no more keys than its terms allow
abbrev pub Few : Option Terms → Entries → Type 0
Few None es = Unit {0}
Few (Some terms) es = exceeds es terms ≡ false

-- ---- what is due

-- the other keys that a prewrite lists: on the primary of an async transaction all of
-- them, in buffer order
abbrev pub others_at : Mode → Entries → ℕ → List Key
others_at TwoPhase es i = []
others_at Async [] i = []
others_at Async (e ∷ es) zero = keys_of es
others_at Async (e ∷ es) (suc i) = []

abbrev pub prewrite_of : SessionState → Terms → ℕ → Due
prewrite_of s terms i = record {
  index = i;
  body = request.Prewrite (record {
    key = key_at s.buffer i;
    mutation = mutation_in s.buffer i;
    start = s.start;
    primary = key_at s.buffer 0;
    mode = terms.mode;
    max_commit = terms.max_commit;
    floor = floor_of (declaration_of s.start s.placed s.buffer terms);
    ttl = terms.ttl;
    others = others_at terms.mode s.buffer i;
  });
}

abbrev pub prewrite_at : SessionState → Option Terms → Option ℕ → Option Due
prewrite_at s None i = None
prewrite_at s (Some terms) None = None
prewrite_at s (Some terms) (Some i) = Some (prewrite_of s terms i)

-- the prewrite that is due: of the first key in buffer order that has no accepted lock
abbrev pub due_prewrite : SessionState → Option Due
due_prewrite s = prewrite_at s s.declared (first_index phase.Prewrite s.buffer)

abbrev pub commit_of : SessionState → ℕ → ℕ → Due
commit_of s c i = record {
  index = i;
  body = request.Commit (record {
    key = key_at s.buffer i;
    start = s.start;
    commit = c;
  });
}

abbrev pub commit_at : SessionState → ℕ → Option ℕ → Option Due
commit_at s c None = None
commit_at s c (Some i) = Some (commit_of s c i)

abbrev pub commit_drawn : SessionState → Option ℕ → Option Due
commit_drawn s None = None
commit_drawn s (Some c) = Some (commit_of s c 0)

abbrev pub commit_by : SessionState → Option Fate → Option Due
commit_by s None = commit_drawn s s.drawn
commit_by s (Some (fate.Committed c)) = commit_at s c (first_index phase.Commit s.buffer)
commit_by s (Some fate.Aborted) = None

abbrev pub commit_if : SessionState → Bool → Option Due
commit_if s false = None
commit_if s true = commit_by s s.decision

-- the commit that is due: of the primary at the drawn timestamp, and once the transaction is
-- committed of each key in buffer order
abbrev pub due_commit : SessionState → Option Due
due_commit s = commit_if s (has_primary s)

abbrev pub rollback_of : SessionState → ℕ → Due
rollback_of s i = record {
  index = i;
  body = request.BatchRollback (record {
    key = key_at s.buffer i;
    start = s.start;
  });
}

abbrev pub check_of : SessionState → ℕ → Due
check_of s i = record {
  index = i;
  body = request.CheckSecondaryLocks (record {
    key = key_at s.buffer i;
    start = s.start;
  });
}

abbrev pub rollback_at : SessionState → Option ℕ → Option Due
rollback_at s None = None
rollback_at s (Some i) = Some (rollback_of s i)

abbrev pub check_at : SessionState → Option ℕ → Option Due
check_at s None = None
check_at s (Some i) = Some (check_of s i)

-- what is asked of the key at an index, if there is one
abbrev pub keyed_at : SessionState → KeyRequest → Option ℕ → Option Due
keyed_at s (key_request.Commit c) i = commit_at s c i
keyed_at s key_request.Rollback i = rollback_at s i
keyed_at s key_request.Check i = check_at s i

-- a session that knows of no decision asks for one: a two-phase one rolls back its primary, an
-- async one has the first key that has no accepted lock checked, which may be locked all the same
abbrev pub abort_of : SessionState → Mode → Option Due
abort_of s TwoPhase = Some (rollback_of s 0)
abort_of s Async = check_at s (first_index phase.Prewrite s.buffer)

abbrev pub abort_open : SessionState → Option Terms → Bool → Option Due
abort_open s None some = None
abort_open s (Some terms) false = None
abort_open s (Some terms) true = abort_of s terms.mode

abbrev pub abort_by : SessionState → Option Fate → Option Due
abort_by s None = abort_open s s.declared (not_empty s.buffer)
abort_by s (Some (fate.Committed c)) = None
abort_by s (Some fate.Aborted) = rollback_at s (first_index phase.Abort s.buffer)

-- the request of an abort that is due: what may decide, and once the transaction is aborted a
-- rollback of each key that was sent
abbrev pub due_abort : SessionState → Option Due
due_abort s = abort_by s s.decision

-- the heartbeat of the primary
abbrev pub heartbeat_of : SessionState → ℕ → Body
heartbeat_of s ttl = request.TxnHeartBeat (record { key = key_at s.buffer 0; start = s.start; ttl = ttl })

-- the read of a key, and of a range
abbrev pub read_of : SessionState → Key → Body
read_of s k = request.Get (record { key = k; at = s.start; bypass = s.bypass })

abbrev pub scan_of : SessionState → Key → Key → ℕ → Body
scan_of s from to limit = request.Scan (record { from = from; to = to; at = s.start; limit = limit; bypass = s.bypass })

-- ---- what a session may do

abbrev pub is_open : Option Fate → Option ℕ → Bool
is_open None None = true
is_open None (Some c) = false
is_open (Some end) o = false

-- a commit timestamp may be drawn where each key of a declared set is locked, some in two phases,
-- nothing is decided, and none is drawn
abbrev pub can_draw : SessionState → Bool
can_draw s = is_open s.decision s.drawn && (has_primary s && (not (is_some (first_index phase.Prewrite s.buffer))
    && has_two_phase_lock s.buffer))

abbrev pub may_commit : Option Fate → Option ℕ → Bool
may_commit None o = is_some o
may_commit (Some (fate.Committed c)) o = true
may_commit (Some fate.Aborted) o = false

-- a commit may be asked where the transaction is committed, or a timestamp is drawn; of nothing
-- declared, always
abbrev pub can_commit : SessionState → Bool
can_commit s = is_declared s && (not (not_empty s.buffer) || may_commit s.decision s.drawn)

abbrev pub may_abort_open : Mode → Option ℕ → Bool
may_abort_open TwoPhase index = true
may_abort_open Async index = is_some index

abbrev pub may_abort : Option Fate → Mode → Option ℕ → Bool
may_abort None mode index = may_abort_open mode index
may_abort (Some (fate.Committed c)) mode index = false
may_abort (Some fate.Aborted) mode index = true

abbrev pub can_abort_by : SessionState → Option Terms → Bool
can_abort_by s None = false
can_abort_by s (Some terms) = not (not_empty s.buffer) || may_abort s.decision terms.mode
    (first_index phase.Prewrite s.buffer)

-- An abort may be asked where the transaction is aborted, or undecided: of an async one only as
-- long as some key has no accepted lock; of nothing declared, always.
abbrev pub can_abort : SessionState → Bool
can_abort s = can_abort_by s s.declared

-- ---- what came of a request

-- what was known first stands
abbrev pub first_settled : Option Fate → Option Fate → Option Fate
first_settled None new = new
first_settled (Some end) new = Some end

-- where each key has an async lock, the transaction is committed at the greatest of their minimums
abbrev pub committed_by : Option ℕ → Option Fate
committed_by None = None
committed_by (Some c) = Some (fate.Committed c)

-- the lock that an answer named as in the way
abbrev pub met_by : Answer → Option LockInfo → Option LockInfo
met_by (answer.KeyIsLocked info) o = Some info
met_by _ o = o

-- an answer below the safe point tells nothing of the fate; each other answer clears the cause
abbrev pub cause_of : Answer → Option UnknownCause
cause_of (answer.BelowSafePoint n) = Some cause.BelowSafePoint
cause_of _ = None

-- a drawn timestamp is given up where it lies below the lock's minimum
abbrev pub drawn_after : Answer → Option ℕ → Option ℕ
drawn_after (answer.CommitTsExpired m) o = None
drawn_after _ o = o

-- a prewrite that went out counts as sent, whatever came of it
abbrev pub sent_by : Phase → Progress → Progress
sent_by phase.Prewrite p = record p { sent = true }
sent_by phase.Commit p = p
sent_by phase.Abort p = p

-- what an answer says of its key: a lock that an abort finds counts as accepted, with its minimum
-- where it is async
abbrev pub marked_by : Phase → Answer → Progress → Progress
marked_by phase.Prewrite (answer.Prewritten m) p = record p { accepted = Some m }
marked_by phase.Commit (answer.Committed c) p = record p { committed = true }
marked_by phase.Abort answer.RolledBack p = record p { rolled = true }
marked_by phase.Abort answer.Missing p = record p { rolled = true }
marked_by phase.Abort (answer.Locked info) p = record p { accepted = Some (async_min info.mode info.min) }
marked_by _ _ p = p

abbrev pub with_sent : SessionState → Phase → ℕ → Entries
with_sent s x i = with_progress s.buffer i (sent_by x (progress_at s.buffer i))

-- why the fate is not known where no answer came
abbrev pub cause_by : Miss → UnknownCause
cause_by miss.Lost = cause.Reply
cause_by miss.Fault = cause.OutOfMemory

-- no answer came
abbrev pub missed : SessionState → Phase → ℕ → Miss → SessionState
missed s x i why = record s { buffer = with_sent s x i; cause = Some (cause_by why) }

-- the buffer after the request of an index was answered so
abbrev pub marked : SessionState → Phase → ℕ → Answer → Entries
marked s x i a = with_progress s.buffer i (marked_by x a (sent_by x (progress_at s.buffer i)))

-- The state after an answer: the first that tells the fate decides, or that each key
-- has an async lock.
abbrev pub after_answer : SessionState → Phase → ℕ → Answer → SessionState
after_answer s x i a = record s {
  buffer = marked s x i a;
  met = met_by a s.met;
  drawn = drawn_after a s.drawn;
  decision = first_settled (first_settled s.decision (fate_in a)) (committed_by (promised (marked s x i a)));
  cause = cause_of a;
}

-- the state after a request of a phase
abbrev pub after_response : SessionState → Phase → ℕ → Response → SessionState
after_response s x i (Err why) = missed s x i why
after_response s x i (Ok a) = after_answer s x i a

-- the state after a read
abbrev pub after_read : SessionState → Response → SessionState
after_read s (Err why) = s
after_read s (Ok a) = record s { met = met_by a s.met }

-- ---- what a resolver found

-- these transactions and one more, where it is not among them
abbrev pub with_one : List ℕ → ℕ → List ℕ
with_one starts t = cond (list_any (λ start. nat_eq start t) starts) starts (starts ++ t ∷ [])

-- a transaction that its reads may pass by and did not yet: one more start is noted
abbrev pub notes_one : SessionState → ℕ → Bool → Bool
notes_one s t may = may && not (list_any (λ start. nat_eq start t) s.bypass)

-- its reads may pass by a transaction that is aborted, or commits above its start; each is named
-- once
abbrev pub with_passed : SessionState → ℕ → Bool → SessionState
with_passed s t false = s
with_passed s t true = record s { bypass = with_one s.bypass t }

-- ---- how it ends

abbrev pub outcome_of : Fate → Outcome
outcome_of (fate.Committed c) = outcome.Committed c
outcome_of fate.Aborted = outcome.Aborted

abbrev pub unknown_by : Option UnknownCause → Option Outcome
unknown_by None = None
unknown_by (Some c) = Some (outcome.Unknown c)

abbrev pub undecided : SessionState → Bool → Option Outcome
undecided s false = Some outcome.ReadOnly
undecided s true = unknown_by s.cause

abbrev pub finish_by : SessionState → Option Fate → Option Outcome
finish_by s (Some end) = Some (outcome_of end)
finish_by s None = undecided s (has_primary s)

-- the outcome that finish answers: the fate where it is known; read-only where nothing was
-- declared; unknown where there is a cause; else there is none yet
abbrev pub finish_of : SessionState → Option Outcome
finish_of s = finish_by s s.decision
