-- What the only region may answer to the requests of the histories, by tables as they are or not.
use Rattle.std.proofs.Common.{◌≡◌, ℕ, ◌<◌, ◌≤◌, ◌+◌, inl, inr, true, false, [], ◌∷◌, Option, Some, None, bytes_eq, Contains, refl, sym, ap, subst, ◌∙◌, arith}
use Rattle.tx_types.specs.declared.key.Key.{Key}
use Rattle.tx_types.specs.declared.value.Value.{Value}
use Rattle.tx_types.specs.declared.mutation.Mode.TheVariants as mode
use Rattle.tx_types.specs.Keys.{IsVisible}
use Rattle.tx_plan.specs.declared.body.Body.{Body}
use Rattle.tx_plan.specs.declared.body.Body.TheVariants as body
use Rattle.tx_plan.specs.declared.body.Prewrite.{Prewrite}
use Rattle.tx_plan.specs.declared.body.CheckTxnStatus.{CheckTxnStatus}
use Rattle.tx_plan.specs.declared.body.Get.{Get}
use Rattle.tx_plan.specs.declared.answer.Answer.{Answer}
use Rattle.tx_plan.specs.declared.answer.Answer.TheVariants as reply
use Rattle.tx_plan.specs.Cells.{Lock, CommitRecord, Write, CommitOf, Region, info_of}
use Rattle.tx_plan.specs.Own.{OwnLock, OwnCommit}
use Rattle.tx_plan.specs.Reads.{Blocks, Finds}
use Rattle.tx_plan.specs.Answers.{Answers}
use Rattle.tx_plan.specs.cases.Prewrite.{MayPromise, IsWithin, least_minimum}
use Rattle.tx_plan.specs.Tables.{Case}
use Rattle.tx_core.specs.Histories.{History, last, left}
use Rattle.tx_core.specs.Allowed.{Allowed}
use Rattle.tx_core.specs.Worlds.{Holds, MayTake}
use Rattle.tx_core.proofs.seats.Stays.{upto_last}
use Rattle.tx_core.proofs.unique.KeyLists.{contains_first, contains_none}
use Rattle.tx_needed.specs.Needed.{TakesAs}
use Rattle.tx_needed.proofs.Words.{a, asks, gets, scans, raises, collects}
use Rattle.tx_needed.proofs.Cells.{by_key, IsFree, never_rolled, never_committed}

-- what is taken by the tables and the rules as they are, may come
pub comes : {h : History} {q : Body} {answer : Answer} → TakesAs Allowed left [] h (asks h q answer)
    → MayTake [] h (asks h q answer)
comes it = record {
  region = omega arith;
  allowed = it.allowed;
  holds = it.holds;
  loaded = it.loaded;
  answers = it.answers;
}

-- no commit record stands in a place
abbrev pub IsNoCommit : Option Write → Type 0
IsNoCommit (Some (CommitOf rec)) = ⊥
IsNoCommit w = Unit {0}

no_commit_is : (w : Option Write) (rec : CommitRecord) → IsNoCommit w → w ≡ Some (CommitOf rec) → ⊥
no_commit_is w rec free stands = subst IsNoCommit stands free

-- who may pass by the transaction of a lock is not blocked by it
abbrev pub start_of : Option Lock → ℕ
start_of None = 0
start_of (Some lock) = lock.start

pub passed : {standing : Option Lock} {r t : ℕ} (lock : Lock) → Blocks standing r (t ∷ []) lock
    → start_of standing ≡ t → ⊥
passed {standing} {r} {t} lock blocks own =
    blocks.met (subst (Contains (t ∷ [])) (sym own ∙ ap start_of blocks.stands) (contains_first t []))

module _ {Allows : History → Body → Type 0} {sees : History → ℕ → Region} {h : History} where
  pub takes : {q : Body} {answer : Answer} → Allows h q → Holds [] 0 q
      → Answers (sees h 0) (last h) (last h) q answer → TakesAs Allows sees [] h (asks h q answer)
  takes allowed holds answers = record {
    allowed = allowed;
    holds = holds;
    loaded = upto_last h;
    answers = answers;
  }

  -- ---- prewrites of a free key

  free_key : (q : Prewrite) (answer : Answer) → IsFree (sees h 0) q → (sees h 0).safe ≤ q.start → q.start ≤ last h
      → Case (q.mode ≡ mode.Async) ((m : ℕ) × MayPromise (sees h 0).max_read (last h) q m
      × Case (IsWithin q.max_commit m) (answer ≡ reply.Prewritten m) (answer ≡ reply.Prewritten 0))
      (answer ≡ reply.Prewritten 0)
      → Allows h (body.Prewrite q) → TakesAs Allows sees [] h (asks h (body.Prewrite q) answer)
  free_key q answer free safe begun ends allowed = takes allowed refl (inr (
    λ low. omega (arith, low, safe),
    inr (
      λ low. omega (arith, low, begun),
      inr (
        λ lock own. (let none = free.unlocked in let some = own.stands in cc (none, some)),
        inr (
          free.unrolled,
          inr (
            free.uncommitted,
            inr (
              λ lock e. (let none = free.unlocked in cc (none, e)),
              inr (free.none_above, inr (free.no_value, ends)),
            ),
          ),
        ),
      ),
    ),
  ))

  pub locks_two_phase : {q : Prewrite} → Allows h (body.Prewrite q) → IsFree (sees h 0) q → (sees h 0).safe ≤ q.start
      → q.start ≤ last h → q.mode ≡ mode.TwoPhase
      → TakesAs Allows sees [] h (asks h (body.Prewrite q) (reply.Prewritten 0))
  locks_two_phase {q} allowed free safe begun two =
      free_key q (reply.Prewritten 0) free safe begun (inr (λ e. (cc (two, e)), refl)) allowed

  -- with the minimum m
  pub locks_async : {q : Prewrite} {m : ℕ} → Allows h (body.Prewrite q) → IsFree (sees h 0) q
      → (sees h 0).safe ≤ q.start → q.start ≤ last h → q.mode ≡ mode.Async → q.max_commit ≡ None
      → least_minimum (sees h 0).max_read q ≤ m → m ≤ last h + 1
      → TakesAs Allows sees [] h (asks h (body.Prewrite q) (reply.Prewritten m))
  locks_async {q} {m} allowed free safe begun async unbounded least upto =
      free_key q (reply.Prewritten m) free safe begun
      (inl (async, (m, (least, upto), inl (subst (λ o. IsWithin o m) (sym unbounded) tt, refl)))) allowed

  -- above the greatest commit timestamp that is allowed it falls back
  pub falls_back : {q : Prewrite} {m n : ℕ} → Allows h (body.Prewrite q) → IsFree (sees h 0) q
      → (sees h 0).safe ≤ q.start → q.start ≤ last h → q.mode ≡ mode.Async → q.max_commit ≡ Some n
      → least_minimum (sees h 0).max_read q ≤ m → m ≤ last h + 1 → n < m
      → TakesAs Allows sees [] h (asks h (body.Prewrite q) (reply.Prewritten 0))
  falls_back {q} {m} {n} allowed free safe begun async bounded least upto above =
      free_key q (reply.Prewritten 0) free safe begun
      (inl (
        async,
        (m, (least, upto), inr (λ within. omega (arith, subst (λ o. IsWithin o m) bounded within, above), refl)),
      )) allowed

  -- ---- commits

  -- the transaction's lock stands, and is committed
  pub commits_lock : {k : Key} {t c : ℕ} (lock : Lock)
      → Allows h (body.Commit record { key = k; start = t; commit = c }) → ((sees h 0).cells k).lock ≡ Some lock
      → lock.start ≡ t → (sees h 0).collected ≤ t → lock.min ≤ c → IsNoCommit (((sees h 0).cells k).write c)
      → TakesAs Allows sees [] h (asks h (body.Commit record { key = k; start = t; commit = c }) (reply.Committed c))
  commits_lock {k} {t} {c} lock allowed stands own uncollected above alone = takes allowed refl (inr (
    λ low. omega (arith, low, uncollected),
    inl (
      lock,
      record { stands = stands; own = own },
      inr (
        λ low. omega (arith, low, above),
        inr (λ rec others. no_commit_is (((sees h 0).cells k).write c) rec alone others.stands, refl),
      ),
    ),
  ))

  -- ---- rollbacks

  -- the transaction's lock stands, and is rolled back
  pub rolls_lock : {k : Key} {t : ℕ} (lock : Lock) → Allows h (body.BatchRollback record { key = k; start = t })
      → ((sees h 0).cells k).lock ≡ Some lock → lock.start ≡ t → (sees h 0).collected ≤ t
      → TakesAs Allows sees [] h (asks h (body.BatchRollback record { key = k; start = t }) reply.RolledBack)
  rolls_lock lock allowed stands own uncollected =
      takes allowed refl
      (inr (λ low. omega (arith, low, uncollected), inl (lock, record { stands = stands; own = own }, refl)))

  -- nothing stands of it, and a rollback is left
  pub rolls_nothing : {k : Key} {t : ℕ} → Allows h (body.BatchRollback record { key = k; start = t })
      → ((sees h 0).cells k).lock ≡ None → ((c : ℕ) → ((sees h 0).cells k).write c ≡ None) → (sees h 0).collected ≤ t
      → TakesAs Allows sees [] h (asks h (body.BatchRollback record { key = k; start = t }) reply.RolledBack)
  rolls_nothing allowed unlocked unwritten uncollected = takes allowed refl (inr (
    λ low. omega (arith, low, uncollected),
    inr (λ lock own. (let some = own.stands in cc (unlocked, some)), inr (never_committed unwritten, refl)),
  ))

  -- a check of a secondary lock finds nothing of it
  pub misses : {k : Key} {t : ℕ} → Allows h (body.CheckSecondaryLocks record { key = k; start = t })
      → ((lock : Lock) → OwnLock ((sees h 0).cells k).lock t lock → ⊥)
      → ((c : ℕ) → OwnCommit ((sees h 0).cells k).write t c → ⊥) → (sees h 0).collected ≤ t
      → TakesAs Allows sees [] h (asks h (body.CheckSecondaryLocks record { key = k; start = t }) reply.Missing)
  misses allowed unlocked uncommitted uncollected = takes allowed refl (inr (
    λ low. omega (arith, low, uncollected),
    inr (unlocked, inr (uncommitted, refl)),
  ))

  pub misses_nothing : {k : Key} {t : ℕ} → Allows h (body.CheckSecondaryLocks record { key = k; start = t })
      → ((sees h 0).cells k).lock ≡ None → ((c : ℕ) → ((sees h 0).cells k).write c ≡ None) → (sees h 0).collected ≤ t
      → TakesAs Allows sees [] h (asks h (body.CheckSecondaryLocks record { key = k; start = t }) reply.Missing)
  misses_nothing allowed unlocked unwritten uncollected =
      misses allowed (λ lock own. (let some = own.stands in cc (unlocked, some))) (never_committed unwritten)
      uncollected

  -- a status check finds an expired lock, and rolls it back
  pub expires : {q : CheckTxnStatus} (lock : Lock) → Allows h (body.CheckTxnStatus q)
      → ((sees h 0).cells q.key).lock ≡ Some lock → lock.start ≡ q.start → (sees h 0).collected ≤ q.start
      → q.caller ≤ last h → ((lock.mode ≡ mode.Async) × (q.force_sync_commit ≡ false) → ⊥)
      → lock.start + lock.ttl < q.current
      → TakesAs Allows sees [] h (asks h (body.CheckTxnStatus q) reply.RolledBack)
  expires lock allowed stands own uncollected known free over = takes allowed refl (inr (
    λ low. omega (arith, low, uncollected),
    inr (
      λ high. omega (arith, high, known),
      inl (lock, record { stands = stands; own = own }, inr (free, inl (over, refl))),
    ),
  ))

  -- it finds nothing, and leaves a rollback
  pub finds_nothing : {q : CheckTxnStatus} → Allows h (body.CheckTxnStatus q) → ((sees h 0).cells q.key).lock ≡ None
      → ((c : ℕ) → ((sees h 0).cells q.key).write c ≡ None) → (sees h 0).collected ≤ q.start → q.caller ≤ last h
      → q.rollback_if_not_exist ≡ true → TakesAs Allows sees [] h (asks h (body.CheckTxnStatus q) reply.RolledBack)
  finds_nothing allowed unlocked unwritten uncollected known wanted = takes allowed refl (inr (
    λ low. omega (arith, low, uncollected),
    inr (
      λ high. omega (arith, high, known),
      inr (
        λ lock own. (let some = own.stands in cc (unlocked, some)),
        inr (never_committed unwritten, inr (never_rolled unwritten, inl (wanted, refl))),
      ),
    ),
  ))

  -- ---- reads

  -- nothing is found
  pub reads_none : {q : Get} → Allows h (body.Get q)
      → ((lock : Lock) → Blocks ((sees h 0).cells q.key).lock q.at q.bypass lock → ⊥)
      → ((v : Value) → Finds ((sees h 0).cells q.key).write q.at v → ⊥) → (sees h 0).safe ≤ q.at → q.at ≤ last h
      → TakesAs Allows sees [] h (asks h (body.Get q) reply.Nothing)
  reads_none allowed free none safe known = takes allowed refl (inr (
    λ low. omega (arith, low, safe),
    inr (λ high. omega (arith, high, known), inr (free, (None, refl, none))),
  ))

  -- no lock and no record stands there
  pub reads_nothing : {q : Get} → Allows h (body.Get q) → ((sees h 0).cells q.key).lock ≡ None
      → ((c : ℕ) → ((sees h 0).cells q.key).write c ≡ None) → (sees h 0).safe ≤ q.at → q.at ≤ last h
      → TakesAs Allows sees [] h (asks h (body.Get q) reply.Nothing)
  reads_nothing allowed unlocked unwritten safe known =
      reads_none allowed (λ lock blocks. (let some = blocks.stands in cc (unlocked, some)))
      (λ v finds. (let none = unwritten finds.at in let some = finds.stands in cc (none, some))) safe known

  -- a lock is met
  pub meets : {k : Key} {r : ℕ} (lock : Lock) → Allows h (gets k r []) → ((sees h 0).cells k).lock ≡ Some lock
      → IsVisible lock.mutation → lock.min ≤ r → (sees h 0).safe ≤ r → r ≤ last h
      → TakesAs Allows sees [] h (asks h (gets k r []) (reply.KeyIsLocked (info_of k lock)))
  meets lock allowed stands visible below safe known = takes allowed refl (inr (
    λ low. omega (arith, low, safe),
    inr (
      λ high. omega (arith, high, known),
      inl (
        lock,
        record { stands = stands; visible = visible; below = below; met = λ has. contains_none lock.start has },
        refl,
      ),
    ),
  ))

  -- a scan gives no rows: no key is locked, nothing is found on a, nothing was written elsewhere
  pub scans_nothing : {r : ℕ} → Allows h (scans r) → ((k : Key) → ((sees h 0).cells k).lock ≡ None)
      → ((v : Value) → Finds ((sees h 0).cells a).write r v → ⊥)
      → ((k : Key) → bytes_eq a k ≡ false → (q : ℕ) → ((sees h 0).cells k).write q ≡ None) → (sees h 0).safe ≤ r
      → r ≤ last h → TakesAs Allows sees [] h (asks h (scans r) (reply.Rows []))
  scans_nothing {r} allowed unlocked none elsewhere safe known = takes allowed (λ k within. refl) (inr (
    λ low. omega (arith, low, safe),
    inr (
      λ high. omega (arith, high, known),
      inr record {
        rows = [];
        answer = refl;
        upto = omega arith;
        walked = record {
          rising = tt;
          inside = λ k v e. absurd (cc (e));
          free = λ k lock within blocks. (let none = unlocked k in let some = blocks.stands in cc (none, some));
          read = λ k within. by_key (λ j. (v : Value) → Finds ((sees h 0).cells j).write r v → ⊥) none
              (λ j e v finds. (let none = elsewhere j e finds.at in let some = finds.stands in cc (none, some))) k;
        };
      },
    ),
  ))

  -- ---- safe points

  pub raises_safe : {n : ℕ} → Allows h (raises n) → n ≤ last h → (sees h 0).safe ≤ n
      → TakesAs Allows sees [] h (asks h (raises n) reply.Raised)
  raises_safe allowed known above =
      takes allowed refl (inr (λ high. omega (arith, high, known), inr (λ low. omega (arith, low, above), refl)))

  -- no key is locked
  pub collects_all : {n records values : ℕ} → Allows h (collects n) → n ≡ (sees h 0).safe
      → ((k : Key) → ((sees h 0).cells k).lock ≡ None)
      → TakesAs Allows sees [] h (asks h (collects n) (reply.Collected records values))
  collects_all {n} {records} {values} allowed same unlocked = takes allowed refl (inr (
    λ other. other same,
    inr (
      λ some. (let none = unlocked some.0.key in let stands = some.1.stands in cc (none, stands)),
      (records, values, refl),
    ),
  ))
