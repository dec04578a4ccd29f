-- Each lock says what its transaction declared.
use Rattle.std.proofs.Common.{◌≡◌, ℕ, ◌==◌, inl, inr, true, cond, List, [], ◌∷◌, Option, Some, None, bytes_eq, refl, sym, ap, subst, ◌∙◌}
use Rattle.tx_types.specs.declared.key.Key.{Key}
use Rattle.tx_types.specs.declared.mutation.Mode.TheVariants.{TwoPhase, Async}
use Rattle.tx_types.specs.declared.mutation.Fate.{Fate}
use Rattle.tx_types.specs.declared.mutation.Fate.TheVariants as fate
use Rattle.tx_plan.specs.declared.body.Body.{Body}
use Rattle.tx_plan.specs.declared.body.Body.TheVariants as body
use Rattle.tx_plan.specs.declared.body.Prewrite.{Prewrite}
use Rattle.tx_plan.specs.declared.answer.Answer.{Answer}
use Rattle.tx_plan.specs.declared.answer.Answer.TheVariants.{Prewritten, Committed, RolledBack, Missing, Locked, Resolved, Ttl, Raised, Collected}
use Rattle.tx_plan.specs.Cells.{Lock, Cells, Region, with_cells, with_lock}
use Rattle.tx_plan.specs.Own.{on_own_lock, is_own, roll_back, commit_lock, lock_committed}
use Rattle.tx_plan.specs.Answers.{leaves, leaves_on}
use Rattle.tx_plan.specs.cases.Prewrite.{lock_of}
use Rattle.tx_plan.specs.cases.TxnHeartBeat.{with_ttl}
use Rattle.tx_plan.specs.cases.CheckTxnStatus.{with_minimum}
use Rattle.tx_plan.specs.cases.ResolveLock.{resolve}
use Rattle.tx_core.specs.declared.event.Declaration.{Declaration}
use Rattle.tx_core.specs.declared.event.Event.{Event}
use Rattle.tx_core.specs.declared.event.Event.TheVariants.{Drawn, Began, Declared, Answered, Stopped, Took}
use Rattle.tx_core.specs.Histories.{History, declared, is_first, left}
use Rattle.tx_core.specs.Allowed.{Allowed, AllowsPrewrite, listed_on}
use Rattle.tx_core.specs.Worlds.{MayCome, IsWorldRun}
use Rattle.tx_core.proofs.Basics.{nat_test, key_test, cond_true, cond_false, chosen, some_same}
use Rattle.tx_core.proofs.changes.Keyed.{own_cases}

-- ---- what an answer leaves of the locks

-- the same lock, but for its minimum and its time to live
pub record SameLock (old new : Lock) : Type 0 where
  pub start : new.start ≡ old.start
  pub mode : new.mode ≡ old.mode
  pub primary : new.primary ≡ old.primary
  pub secondaries : new.secondaries ≡ old.secondaries

-- it stood before, but for those two
abbrev pub Stood : Option Lock → Lock → Type 0
Stood o lock = (old : Lock) × (o ≡ Some old) × SameLock old lock

same_lock : (lock : Lock) → SameLock lock lock
same_lock lock = record { start = refl; mode = refl; primary = refl; secondaries = refl }

stood : (o : Option Lock) (lock : Lock) → o ≡ Some lock → Stood o lock
stood o lock e = (lock, e, same_lock lock)

-- ---- on one key

own_left : (o : Option Lock) (t : ℕ) (lock : Lock) → cond (is_own o t) None o ≡ Some lock → Stood o lock
own_left None t lock e = absurd (cc (e))
own_left (Some old) t lock e =
    elim (chosen (old.start == t) None (Some old) (Some lock) e) [
      | inl x ↦ absurd (cc (x.1))
      | inr x ↦ stood (Some old) lock x.1
    ]

-- a change of its own lock
own_changed : (cells : Cells) (t : ℕ) (f : Lock → Cells)
    → ((old lock : Lock) → cells.lock ≡ Some old → (f old).lock ≡ Some lock → Stood cells.lock lock) → (lock : Lock)
    → (on_own_lock cells t f).lock ≡ Some lock → Stood cells.lock lock
own_changed cells t f does lock e =
    elim (own_cases cells t f) [
      | inl x ↦ does x.0 lock x.1 (ap (λ (c : Cells). c.lock) (sym x.3) ∙ e)
      | inr x ↦ stood cells.lock lock (ap (λ (c : Cells). c.lock) (sym x.1) ∙ e)
    ]

settle_left : (cells : Cells) (t c : ℕ) (lock : Lock) → (commit_lock cells t c).lock ≡ Some lock → Stood cells.lock lock
settle_left cells t c = own_changed cells t (λ lock. lock_committed cells c lock) (λ old lock is e. absurd (cc (e)))

-- its own lock, put back with another minimum or time to live
put_back : (cells : Cells) (t : ℕ) (f : Lock → Lock) → ((old : Lock) → SameLock old (f old)) → (lock : Lock)
    → (on_own_lock cells t (λ old. with_lock cells (Some (f old)))).lock ≡ Some lock → Stood cells.lock lock
put_back cells t f same =
    own_changed cells t (λ old. with_lock cells (Some (f old)))
    (λ old lock is e. (old, is, subst (SameLock old) (some_same (f old) lock e) (same old)))

resolve_left : (cells : Cells) (t : ℕ) (end : Fate) (lock : Lock) → (resolve cells t end).lock ≡ Some lock
    → Stood cells.lock lock
resolve_left cells t fate.Aborted lock e =
    own_changed cells t (λ old. roll_back cells t) (λ old new is y. own_left cells.lock t new y) lock e
resolve_left cells t (fate.Committed c) lock e = settle_left cells t c lock e

-- ---- of a region

-- it stood before, or a prewrite has put it
data Left (r : Region) (x : Body) (k : Key) (lock : Lock) : Type 0 where
  was : (before : Stood (r.cells k).lock lock) → Left r x k lock
  put : (b : Prewrite) (m : ℕ) (is : x ≡ body.Prewrite b) (at : b.key ≡ k) (new : lock ≡ lock_of b m) → Left r x k lock

-- the cells of one key changed
left_keyed : (r : Region) (x : Body) (key : Key) (new : Cells)
    → ((lock : Lock) → new.lock ≡ Some lock → Left r x key lock) → (k : Key) (lock : Lock)
    → ((with_cells r key new).cells k).lock ≡ Some lock → Left r x k lock
left_keyed r x key new does k lock e =
    elim (key_test key k) [
      | inl y ↦ subst (λ q. Left r x q lock) y.1
          (does lock (ap (λ (c : Cells). c.lock) (sym (cond_true (bytes_eq key k) new (r.cells k) y.0)) ∙ e))
      | inr y ↦ was (stood (r.cells k).lock lock
          (ap (λ (c : Cells). c.lock) (sym (cond_false (bytes_eq key k) new (r.cells k) y.0)) ∙ e))
    ]

left_lock : (r : Region) (x : Body) (a : Answer) (k : Key) (lock : Lock) → ((leaves r x a).cells k).lock ≡ Some lock
    → Left r x k lock
left_lock r (body.Get b) a k lock e = was (stood (r.cells k).lock lock e)
left_lock r (body.Scan b) a k lock e = was (stood (r.cells k).lock lock e)
left_lock r (body.Prewrite b) a k lock e =
    left_keyed r (body.Prewrite b) b.key (leaves_on (r.cells b.key) (body.Prewrite b) a) (does a) k lock e
  where
    locks : (m : ℕ) (o : Option Lock) → (r.cells b.key).lock ≡ o → (new : Lock)
        → (leaves_on (record { lock = o; write = (r.cells b.key).write }) (body.Prewrite b) (Prewritten m)).lock
        ≡ Some new
        → Left r (body.Prewrite b) b.key new
    locks m None is new y = put b m refl refl (some_same new (lock_of b m) (sym y))
    locks m (Some old) is new y = was (stood (r.cells b.key).lock new (is ∙ y))

    does : (a : Answer) (new : Lock) → (leaves_on (r.cells b.key) (body.Prewrite b) a).lock ≡ Some new
        → Left r (body.Prewrite b) b.key new
    does (Prewritten m) new y = locks m (r.cells b.key).lock refl new y
    does _ new y = was (stood (r.cells b.key).lock new y)
left_lock r (body.Commit b) a k lock e =
    left_keyed r (body.Commit b) b.key (leaves_on (r.cells b.key) (body.Commit b) a) (does a) k lock e
  where
    does : (a : Answer) (new : Lock) → (leaves_on (r.cells b.key) (body.Commit b) a).lock ≡ Some new
        → Left r (body.Commit b) b.key new
    does (Committed c) new y = was (settle_left (r.cells b.key) b.start b.commit new y)
    does _ new y = was (stood (r.cells b.key).lock new y)
left_lock r (body.BatchRollback b) a k lock e =
    left_keyed r (body.BatchRollback b) b.key (leaves_on (r.cells b.key) (body.BatchRollback b) a) (does a) k lock e
  where
    does : (a : Answer) (new : Lock) → (leaves_on (r.cells b.key) (body.BatchRollback b) a).lock ≡ Some new
        → Left r (body.BatchRollback b) b.key new
    does RolledBack new y = was (own_left (r.cells b.key).lock b.start new y)
    does _ new y = was (stood (r.cells b.key).lock new y)
left_lock r (body.TxnHeartBeat b) a k lock e =
    left_keyed r (body.TxnHeartBeat b) b.key (leaves_on (r.cells b.key) (body.TxnHeartBeat b) a) (does a) k lock e
  where
    does : (a : Answer) (new : Lock) → (leaves_on (r.cells b.key) (body.TxnHeartBeat b) a).lock ≡ Some new
        → Left r (body.TxnHeartBeat b) b.key new
    does (Ttl ttl) new y =
        was (put_back (r.cells b.key) b.start (λ old. with_ttl old ttl)
        (λ old. record { start = refl; mode = refl; primary = refl; secondaries = refl }) new y)
    does _ new y = was (stood (r.cells b.key).lock new y)
left_lock r (body.CheckTxnStatus b) a k lock e =
    left_keyed r (body.CheckTxnStatus b) b.key (leaves_on (r.cells b.key) (body.CheckTxnStatus b) a) (does a) k lock e
  where
    does : (a : Answer) (new : Lock) → (leaves_on (r.cells b.key) (body.CheckTxnStatus b) a).lock ≡ Some new
        → Left r (body.CheckTxnStatus b) b.key new
    does RolledBack new y = was (own_left (r.cells b.key).lock b.start new y)
    does (Locked info) new y =
        was (put_back (r.cells b.key) b.start (λ old. with_minimum old info.min)
        (λ old. record { start = refl; mode = refl; primary = refl; secondaries = refl }) new y)
    does _ new y = was (stood (r.cells b.key).lock new y)
left_lock r (body.CheckSecondaryLocks b) a k lock e =
    left_keyed r (body.CheckSecondaryLocks b) b.key (leaves_on (r.cells b.key) (body.CheckSecondaryLocks b) a)
    (does a) k lock e
  where
    does : (a : Answer) (new : Lock) → (leaves_on (r.cells b.key) (body.CheckSecondaryLocks b) a).lock ≡ Some new
        → Left r (body.CheckSecondaryLocks b) b.key new
    does Missing new y = was (stood (r.cells b.key).lock new y)
    does _ new y = was (stood (r.cells b.key).lock new y)
left_lock r (body.ResolveLock b) a k lock e =
    left_keyed r (body.ResolveLock b) b.key (leaves_on (r.cells b.key) (body.ResolveLock b) a) (does a) k lock e
  where
    does : (a : Answer) (new : Lock) → (leaves_on (r.cells b.key) (body.ResolveLock b) a).lock ≡ Some new
        → Left r (body.ResolveLock b) b.key new
    does Resolved new y = was (resolve_left (r.cells b.key) b.start b.fate new y)
    does _ new y = was (stood (r.cells b.key).lock new y)
left_lock r (body.RaiseSafe b) Raised k lock e = was (stood (r.cells k).lock lock e)
left_lock r (body.RaiseSafe b) _ k lock e = was (stood (r.cells k).lock lock e)
left_lock r (body.LocksBelow b) a k lock e = was (stood (r.cells k).lock lock e)
left_lock r (body.Collect b) (Collected records values) k lock e = was (stood (r.cells k).lock lock e)
left_lock r (body.Collect b) _ k lock e = was (stood (r.cells k).lock lock e)

-- ---- what a lock says

-- a lock says what its transaction declared: its primary, and on the primary of an async
-- transaction the other keys
pub record Says (h : History) (k : Key) (lock : Lock) : Type 0 where
  pub of : Declaration
  pub stands : declared h lock.start ≡ Some of
  pub primary : is_first of.changes lock.primary ≡ true
  pub listed : lock.mode ≡ Async → lock.secondaries ≡ listed_on of k

abbrev pub AllSay : History → Type 0
AllSay h = (n : ℕ) (k : Key) (lock : Lock) → ((left h n).cells k).lock ≡ Some lock → Says h k lock

says_same : (h : History) (k : Key) (old lock : Lock) → SameLock old lock → Says h k old → Says h k lock
says_same h k old lock same says =
    record {
      of = says.of;
      stands = ap (declared h) same.start ∙ says.stands;
      primary = ap (is_first says.of.changes) same.primary ∙ says.primary;
      listed = λ mode. same.secondaries ∙ says.listed (sym same.mode ∙ mode);
    }

put_says : (h : History) (k : Key) (b : Prewrite) (m : ℕ) → AllowsPrewrite h b → b.key ≡ k → Says h k (lock_of b m)
put_says h k b m may at =
    record {
      of = may.of;
      stands = may.stands;
      primary = may.primary;
      listed = λ mode. elim (nat_test m 0) [
        | inl x ↦ (let no : TwoPhase ≡ Async = rw x.0 at mode in absurd (cc (no)))
        | inr x ↦ rw x.0 (may.others ∙ ap (listed_on may.of) at)
      ];
    }

-- an event that declares nothing that was declared before
says_later : (h : History) (e : Event) (k : Key) (lock : Lock)
    → ((d : Declaration) → declared h lock.start ≡ Some d → declared (e ∷ h) lock.start ≡ Some d) → Says h k lock
    → Says (e ∷ h) k lock
says_later h e k lock still says =
    record { of = says.of; stands = still says.of says.stands; primary = says.primary; listed = says.listed }

say_next : (bounds : List Key) (h : History) → AllSay h → (e : Event) → MayCome bounds h e → AllSay (e ∷ h)
say_next bounds h before (Drawn s n) may i k lock e =
    (let says = before i k lock e in
    record { of = says.of; stands = says.stands; primary = says.primary; listed = says.listed })
say_next bounds h before (Began t) may i k lock e =
    (let says = before i k lock e in
    record { of = says.of; stands = says.stands; primary = says.primary; listed = says.listed })
say_next bounds h before (Answered t o) may i k lock e =
    (let says = before i k lock e in
    record { of = says.of; stands = says.stands; primary = says.primary; listed = says.listed })
say_next bounds h before (Stopped s) may i k lock e =
    (let says = before i k lock e in
    record { of = says.of; stands = says.stands; primary = says.primary; listed = says.listed })
say_next bounds h before (Declared d) may n k lock e =
    says_later h (Declared d) k lock (λ x is. still x is) (before n k lock e)
  where
    still : (x : Declaration) → declared h lock.start ≡ Some x → declared (Declared d ∷ h) lock.start ≡ Some x
    still x is =
        elim (nat_test d.start lock.start) [
          | inl y ↦ absurd (cc (may.once, subst (λ u. declared h u ≡ Some x) (sym y.1) is))
          | inr y ↦ rw y.0 is
        ]
say_next bounds h before (Took x) may n k lock e =
    elim (nat_test x.region n) [
      | inl same ↦ go (left_lock (left h n) x.body x.answer k lock
          (ap (λ (r : Region). (r.cells k).lock)
          (sym (cond_true (x.region == n) (leaves (left h n) x.body x.answer) (left h n) same.0)) ∙ e))
      | inr other ↦ again (before n k lock
          (ap (λ (r : Region). (r.cells k).lock)
          (sym (cond_false (x.region == n) (leaves (left h n) x.body x.answer) (left h n) other.0)) ∙ e))
    ]
  where
    again : Says h k lock → Says (Took x ∷ h) k lock
    again says = record { of = says.of; stands = says.stands; primary = says.primary; listed = says.listed }

    go : Left (left h n) x.body k lock → Says (Took x ∷ h) k lock
    go (was before_it) = again (says_same h k before_it.0 lock before_it.2 (before n k before_it.0 before_it.1))
    go (put b m is at new) = again (subst (Says h k) (sym new) (put_says h k b m (subst (Allowed h) is may.allowed) at))

-- in every world run each lock says what its transaction declared
pub all_say : (bounds : List Key) (h : History) → IsWorldRun bounds h → AllSay h
all_say bounds [] run n k lock e = absurd (cc (e))
all_say bounds (e ∷ h) run n k lock is = say_next bounds h (all_say bounds h run.0) e run.1 n k lock is
