-- What a resolver sends for a lock that was met, and what it finds.
use Rattle.std.specs.Prelude.{ℕ, ◌+◌, ◌&&◌, max, nat_lt, Bool, true, false, cond, List, [], ◌∷◌, Option, Some, None, Ok, Err}
use Rattle.tx_types.specs.declared.key.Key.{Key}
use Rattle.tx_types.specs.declared.lock.LockInfo.{LockInfo}
use Rattle.tx_types.specs.declared.mutation.Fate.{Fate}
use Rattle.tx_types.specs.declared.mutation.Fate.TheVariants as fate
use Rattle.tx_types.specs.declared.mutation.Mode.{Mode}
use Rattle.tx_types.specs.declared.mutation.Mode.TheVariants.{TwoPhase, Async}
use Rattle.tx_plan.specs.declared.body.Body.{Body}
use Rattle.tx_plan.specs.declared.body.Body.TheVariants as body
use Rattle.tx_plan.specs.declared.answer.Answer.TheVariants as answer
use Rattle.tx_transaction.specs.Returns.{Response}
use Rattle.tx_transaction.specs.declared.state.Miss.TheVariants as miss
use Rattle.tx_client.specs.declared.resolved.Status.{Status}
use Rattle.tx_client.specs.declared.resolved.Status.TheVariants as status
use Rattle.tx_client.specs.declared.resolved.WaitCause.{WaitCause}
use Rattle.tx_client.specs.declared.resolved.WaitCause.TheVariants as cause
use Rattle.tx_client.specs.Walks.{Walk, asks, grows, ends, then_walk}
use Rattle.tx_resolve.specs.declared.findings.For.{For}
use Rattle.tx_resolve.specs.declared.findings.For.TheVariants.{Reader, Collector}
use Rattle.tx_resolve.specs.declared.findings.Primary.{Primary}
use Rattle.tx_resolve.specs.declared.findings.Primary.TheVariants as primary
use Rattle.tx_resolve.specs.declared.findings.Others.{Others}
use Rattle.tx_resolve.specs.declared.findings.Others.TheVariants as others
use Rattle.tx_resolve.specs.declared.findings.Other.{Other}
use Rattle.tx_resolve.specs.declared.findings.Other.TheVariants as other

-- ---- for whom

-- the timestamp of the read that was stopped; the collector reads nothing
abbrev pub caller_of : For → ℕ
caller_of (Reader at now) = at
caller_of Collector = 0

-- the time against which locks are held: for the collector the greatest
abbrev pub time_of : For → ℕ
time_of (Reader at now) = now
time_of Collector = 18446744073709551615

-- whether a lock's time to live is over: for the collector always
abbrev pub is_over : For → LockInfo → Bool
is_over (Reader at now) info = nat_lt (info.start + info.ttl) now
is_over Collector info = true

-- whether a lock with this minimum lets the read pass: nothing lets the collector pass
abbrev pub lets_pass : For → ℕ → Bool
lets_pass (Reader at now) minimum = nat_lt at minimum
lets_pass Collector minimum = false

-- ---- requests

-- the check of the primary of a lock that was met: it leaves a rollback where nothing stands and
-- that lock's time is over
abbrev pub check_of : LockInfo → For → Bool → Body
check_of met who forced = body.CheckTxnStatus record {
  key = met.primary;
  start = met.start;
  caller = caller_of who;
  current = time_of who;
  rollback_if_not_exist = is_over who met;
  force_sync_commit = forced;
}

-- the check of another key of the transaction that started at t
abbrev pub other_of : ℕ → Key → Body
other_of t key = body.CheckSecondaryLocks record { key = key; start = t }

-- the lock that was met, and it alone, gets the fate of its transaction
abbrev pub settle_of : LockInfo → Fate → Body
settle_of met end = body.ResolveLock record { key = met.key; start = met.start; fate = end }

-- ---- what comes of them

-- why to wait
abbrev pub waiting_by : Response → WaitCause
waiting_by (Err miss.Lost) = cause.Reply
waiting_by (Err miss.Fault) = cause.OutOfMemory
waiting_by (Ok (answer.BelowSafePoint safe)) = cause.BelowSafePoint
waiting_by (Ok answer.TxnNotFound) = cause.NotFound
waiting_by (Ok a) = cause.Live

abbrev pub is_async : Mode → Bool
is_async TwoPhase = false
is_async Async = true

-- The lock of the primary: it is pushed where it lets the read pass; else, where it is async and
-- its time is over, it tells nothing by itself; else it lives.
abbrev pub rests_by : For → LockInfo → Option Status
rests_by who info =
    cond (lets_pass who info.min) (Some (status.Pushed info.min))
    (cond (is_async info.mode && is_over who info) None (Some (status.Waiting cause.Live)))

abbrev pub standing_by : LockInfo → Option Status → Primary
standing_by info None = primary.Expired info
standing_by info (Some found) = primary.Rests found

-- the primary tells a fate, or why to wait
abbrev pub unlocked_by : Response → Primary
unlocked_by (Ok (answer.Committed c)) = primary.Decided (fate.Committed c)
unlocked_by (Ok answer.RolledBack) = primary.Decided fate.Aborted
unlocked_by c = primary.Rests (status.Waiting (waiting_by c))

-- or of its lock
abbrev pub primary_by : For → Response → Primary
primary_by who (Ok (answer.Locked info)) = standing_by info (rests_by who info)
primary_by who c = unlocked_by c

-- another key: its async lock, with its minimum, leaves all open; a two-phase lock, a commit or
-- that it is missing does not
abbrev pub other_by : Response → Other
other_by (Ok (answer.Locked info)) =
    elim info.mode [ TwoPhase ↦ other.Ends others.FellBack | Async ↦ other.Async info.min ]
other_by (Ok (answer.Committed c)) = other.Ends (others.Decided (fate.Committed c))
other_by (Ok answer.Missing) = other.Ends (others.Decided fate.Aborted)
other_by c = other.Ends (others.Rests (waiting_by c))

abbrev pub status_of : Fate → Status
status_of (fate.Committed c) = status.Committed c
status_of fate.Aborted = status.Aborted

-- a fate is the status once the lock that was met is answered resolved; any other answer
-- says why to wait
abbrev pub settled_by : Fate → Response → Status
settled_by end (Ok answer.Resolved) = status_of end
settled_by end c = status.Waiting (waiting_by c)

-- ---- the walk

abbrev pub primary_walk : LockInfo → For → Bool → Walk Primary
primary_walk met who forced = grows (asks (check_of met who forced) (λ c. ends (primary_by who c)))
    (ends (primary.Rests (status.Waiting cause.OutOfMemory)))

abbrev pub settle_walk : LockInfo → Fate → Walk Status
settle_walk met end = grows (asks (settle_of met end) (λ c. ends (settled_by end c)))
    (ends (status.Waiting cause.OutOfMemory))

abbrev pub other_walk : ℕ → Key → Walk Other
other_walk t key = grows (asks (other_of t key) (λ c. ends (other_by c)))
    (ends (other.Ends (others.Rests cause.OutOfMemory)))

-- an async lock, and the keys after it; or the end
abbrev pub further : ℕ → (ℕ → Walk Others) → Other → Walk Others
further most more (other.Async minimum) = more (max most minimum)
further most more (other.Ends found) = ends found

-- The other keys of an async transaction in order, up to the first answer that is no async
-- lock. Where there is none, the transaction is committed at the greatest minimum, its
-- primary's among them.
abbrev pub others_walk : ℕ → List Key → ℕ → Walk Others
others_walk t [] most = ends (others.Decided (fate.Committed most))
others_walk t (key ∷ keys) most = then_walk (other_walk t key) (further most (others_walk t keys))

-- a check that was forced tells a fate, or that the lock is pushed
abbrev pub after_forced : LockInfo → Primary → Walk Status
after_forced met (primary.Rests found) = ends found
after_forced met (primary.Decided end) = settle_walk met end
after_forced met (primary.Expired info) = ends (status.Waiting cause.Live)

-- the primary of a transaction that has fallen back is asked as if it were two-phase
abbrev pub forced_walk : LockInfo → For → Walk Status
forced_walk met who = then_walk (primary_walk met who true) (after_forced met)

abbrev pub after_others : LockInfo → For → Others → Walk Status
after_others met who (others.Rests why) = ends (status.Waiting why)
after_others met who (others.Decided end) = settle_walk met end
after_others met who others.FellBack = forced_walk met who

-- an async transaction whose time is over
abbrev pub expired_walk : LockInfo → For → LockInfo → Walk Status
expired_walk met who info = then_walk (others_walk met.start info.secondaries info.min) (after_others met who)

abbrev pub after_primary : LockInfo → For → Primary → Walk Status
after_primary met who (primary.Rests found) = ends found
after_primary met who (primary.Decided end) = settle_walk met end
after_primary met who (primary.Expired info) = expired_walk met who info

-- The primary is asked. A fate that it tells is given to the lock that was met; of an async
-- transaction whose time is over the other keys are asked, and where one has fallen back, the
-- primary again, as if it were two-phase.
abbrev pub resolve_walk : LockInfo → For → Walk Status
resolve_walk met who = then_walk (primary_walk met who false) (after_primary met who)
