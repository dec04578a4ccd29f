-- The lock of an accepted prewrite, and: a transaction of which each key had an async lock is
-- committed at the greatest of their minimums.
use Rattle.std.proofs.Common.{◌≡◌, ◌≢◌, ℕ, ◌==◌, inl, inr, Bool, true, false, cond, List, [], ◌∷◌, Option, Some, None, bytes_eq, refl, sym, ap, subst, ◌∙◌, arith}
use Rattle.tx_types.specs.declared.key.Key.{Key}
use Rattle.tx_types.specs.declared.mutation.Change.{Change}
use Rattle.tx_types.specs.declared.mutation.Fate.TheVariants as fate
use Rattle.tx_types.specs.declared.mutation.Mode.TheVariants.{Async}
use Rattle.tx_plan.specs.declared.body.Body.TheVariants as body
use Rattle.tx_plan.specs.declared.body.Prewrite.{Prewrite}
use Rattle.tx_plan.specs.declared.answer.Answer.{Answer}
use Rattle.tx_plan.specs.declared.answer.Answer.TheVariants.{Prewritten}
use Rattle.tx_plan.specs.Cells.{Lock, Cells, Region, info_of}
use Rattle.tx_plan.specs.Answers.{Answers, leaves, leaves_on}
use Rattle.tx_plan.specs.cases.Prewrite.{lock_of, locked, named_minimum}
use Rattle.tx_machine.specs.Keys.{mutation_at}
use Rattle.tx_machine.specs.Machine.{Done}
use Rattle.tx_core.specs.declared.event.Taken.{Taken}
use Rattle.tx_core.specs.declared.event.Event.TheVariants.{Took}
use Rattle.tx_core.specs.Histories.{History, last, declared, set_at, left, Among}
use Rattle.tx_core.specs.Decisions.{Acceptance, accepted, HasTwoPhaseLock, async_minimum, greater, greatest, decided}
use Rattle.tx_core.specs.Worlds.{IsWorldRun}
use Rattle.tx_core.specs.Laws.{IsLockOf, WasPrewritten, HasPrewritten, HadAsyncLock, greatest_of}
use Rattle.tx_core.proofs.Basics.{nat_test, nat_same, key_same, cond_true, none_is, some_same}
use Rattle.tx_core.proofs.view.View.{does_within}
use Rattle.tx_core.proofs.runs.AllRuns.{run_told}
use Rattle.tx_core.proofs.seats.Beginnings.{begins_all}
use Rattle.tx_core.proofs.locks.ToldLocks.{here, standing, is_lock_on}

-- ---- an accepted prewrite

-- the lock that a prewrite was answered for stands, with that minimum
abbrev Answered : Region → Prewrite → ℕ → Type 0
Answered r b m = (lock : Lock) × ((r.cells b.key).lock ≡ Some lock) × (lock.start ≡ b.start) × (named_minimum lock ≡ m)

module _ (r : Region) (b : Prewrite) where
  after : (o : Option Lock) (m : ℕ) → (r.cells b.key).lock ≡ o
      → ((leaves r (body.Prewrite b) (Prewritten m)).cells b.key).lock ≡ Some (locked o b m)
  after o m e = ap (λ (c : Cells). c.lock) (here r b.key (leaves_on (r.cells b.key) (body.Prewrite b) (Prewritten m)))
      ∙ ap (λ x. Some (locked x b m)) e

  named : (m : ℕ) → named_minimum (lock_of b m) ≡ m
  named m = elim (nat_test m 0) [ inl x ↦ rw x.0 (sym x.1) | inr x ↦ rw x.0 refl ]

  new : (m : ℕ) → (r.cells b.key).lock ≡ None → Answered (leaves r (body.Prewrite b) (Prewritten m)) b m
  new m e = (lock_of b m, after None m e, refl, named m)

  given : (a : Answer) (m n : ℕ) → a ≡ Prewritten n → a ≡ Prewritten m
      → Answered (leaves r (body.Prewrite b) (Prewritten n)) b n → Answered (leaves r (body.Prewrite b) a) b m
  given a m n e f x =
      let same : n ≡ m = cc (e, f) in
      subst (λ y. Answered (leaves r (body.Prewrite b) y) b m) (sym e)
      (subst (λ q. Answered (leaves r (body.Prewrite b) (Prewritten n)) b q) same x)

  answered : (l top : ℕ) (a : Answer) (m : ℕ) → Answers r l top (body.Prewrite b) a → a ≡ Prewritten m
      → Answered (leaves r (body.Prewrite b) a) b m
  answered l top a m (inl x) is = absurd (cc (x.1, is))
  answered l top a m (inr (no0, inl x)) is = absurd (cc (x.1, is))
  answered l top a m (inr (no0, inr (no1, inl (lock, own, e)))) is =
      given a m (named_minimum lock) e is (lock, after (Some lock) (named_minimum lock) own.stands, own.own, refl)
  answered l top a m (inr (no0, inr (no1, inr (no2, inl x)))) is = absurd (cc (x.1, is))
  answered l top a m (inr (no0, inr (no1, inr (no2, inr (no3, inl (c, own, e)))))) is = absurd (cc (e, is))
  answered l top a m (inr (no0, inr (no1, inr (no2, inr (no3, inr (no4, inl (lock, at, e))))))) is = absurd (cc (e, is))
  answered l top a m (inr (
    no0,
    inr (no1, inr (no2, inr (no3, inr (no4, inr (no5, inl (some, (start, c, newest, e))))))),
  )) is =
      absurd (cc (e, is))
  answered l top a m (inr (no0, inr (no1, inr (no2, inr (no3, inr (no4, inr (no5, inr (no6, inl x)))))))) is =
      absurd (cc (x.1, is))
  answered l top a m (inr (
    no0,
    inr (no1, inr (no2, inr (no3, inr (no4, inr (no5, inr (no6, inr (no7, inl (mode, (n, promise, inl x))))))))),
  )) is
      = given a m n x.1 is (new n (none_is (r.cells b.key).lock no5))
  answered l top a m (inr (
    no0,
    inr (no1, inr (no2, inr (no3, inr (no4, inr (no5, inr (no6, inr (no7, inl (mode, (n, promise, inr x))))))))),
  )) is
      = given a m 0 x.1 is (new 0 (none_is (r.cells b.key).lock no5))
  answered l top a m (inr (no0, inr (no1, inr (no2, inr (no3, inr (no4, inr (no5, inr (no6, inr (no7, inr x))))))))) is
      = given a m 0 x.1 is (new 0 (none_is (r.cells b.key).lock no5))

prewritten_among : (bounds : List Key) (h : History) → IsWorldRun bounds h → (by : Taken) → Among h (Took by)
    → (b : Prewrite) (m : ℕ) → by.body ≡ body.Prewrite b → by.answer ≡ Prewritten m → HasPrewritten h b m
prewritten_among bounds [] run by among b m is answer = absurd among
prewritten_among bounds (e ∷ h) run by among b m is answer =
    elim among [
      | inr before ↦ (
          let was = prewritten_among bounds h run.0 by before b m is answer in
          record {
            lock = was.lock;
            is =
                is_lock_on bounds h (e ∷ h) run (inr (begins_all h)) (info_of b.key was.lock) was.is;
            own = was.own;
            named
                = was.named;
          }
          )
      | inl now ↦ (
          let took : IsWorldRun bounds (Took by ∷ h) = subst (λ x. IsWorldRun bounds (x ∷ h)) now run in
          let gave : Answers (left h by.region) by.loaded (last h) (body.Prewrite b) by.answer =
          subst (λ x. Answers (left h by.region) by.loaded (last h) x by.answer) is took.1.answers in
          let found = answered (left h by.region) b by.loaded (last h) by.answer m gave answer in
          let kept : left (Took by ∷ h) by.region ≡ leaves (left h by.region) (body.Prewrite b) by.answer =
          cond_true (by.region == by.region) (leaves (left h by.region) by.body by.answer) (left h by.region)
          (nat_same by.region) ∙ ap (λ x. leaves (left h by.region) x by.answer) is in
          let at : ((left (Took by ∷ h) by.region).cells b.key).lock ≡ Some found.0 =
          ap (λ (r : Region). (r.cells b.key).lock) kept ∙ found.1 in
          record {
            lock = found.0;
            is =
                subst (λ x. IsLockOf (x ∷ h) (info_of b.key found.0)) (sym now)
                (standing bounds (Took by ∷ h) took by.region b.key found.0 at);
            own = found.2;
            named = found.3;
          }
          )
    ]

-- the lock that a prewrite was accepted for is one of its transaction, as if it had been told of
pub prewritten_lock : (bounds : List Key) (h : History) (b : Prewrite) (m : ℕ) → IsWorldRun bounds h
    → WasPrewritten h b m → HasPrewritten h b m
prewritten_lock bounds h b m run was = prewritten_among bounds h run was.by was.among b m was.asked was.told

-- ---- each key async

-- a key is accepted async, and with this minimum unless some key of its transaction is
-- accepted two-phase
record IsAsync (h : History) (t : ℕ) (k : Key) (m : ℕ) : Type 0 where
  pub by : Acceptance
  pub stands : accepted h t k ≡ Some by
  pub async : by.lock.mode ≡ Async
  pub min : (HasTwoPhaseLock h t → ⊥) → by.lock.min ≡ m

async_min : (by : Acceptance) → by.lock.mode ≡ Async → async_minimum (Some by) ≡ Some by.lock.min
async_min by e = rw e refl

is_async : (h : History) (t : ℕ) (k : Key) (m : ℕ) → HadAsyncLock h t k m → IsAsync h t k m
is_async h t k m had =
    record {
      by = had.is.by;
      stands = subst (λ u. accepted h u k
          ≡ Some had.is.by) had.own (subst (λ q. accepted h had.info.start q ≡ Some had.is.by) had.key had.is.accepted);
      async = had.is.mode ∙ had.async;
      min = λ never. had.is.min (inr (λ has. never (subst (HasTwoPhaseLock h) had.own has))) ∙ had.min;
    }

-- each key of a list of changes is in its set
abbrev Each : (Key → Type 0) → List Change → Type 0
Each P [] = Unit {0}
Each P (c ∷ cs) = P c.key × Each P cs

each_in : (P : Key → Type 0) (set part : List Change)
    → ((k : Key) → mutation_at part k ≢ None → mutation_at set k ≢ None) → ((k : Key) → mutation_at set k ≢ None → P k)
    → Each P part
each_in P set [] within all = tt
each_in P set (c ∷ cs) within all = (
  all c.key (within c.key
      (λ none. (let first : mutation_at (c ∷ cs) c.key ≡ Some c.mutation =
      cond_true (bytes_eq c.key c.key) (Some c.mutation) (mutation_at cs c.key) (key_same c.key) in
      cc (first, none)))),
  each_in P set cs (λ k some. within k (λ none. some (later k none))) all,
)
  where
    later : (k : Key) → mutation_at (c ∷ cs) k ≡ None → mutation_at cs k ≡ None
    later k none = go (bytes_eq c.key k) none
      where
        go : (b : Bool) → cond b (Some c.mutation) (mutation_at cs k) ≡ None → mutation_at cs k ≡ None
        go true e = absurd (cc (e))
        go false e = e

greatest_is : (acceptance : Key → Option Acceptance) (min : Key → ℕ) (set : List Change) → set ≢ []
    → Each (λ k. async_minimum (acceptance k) ≡ Some (min k)) set → greatest acceptance set ≡ Some (greatest_of min set)
greatest_is acceptance min [] some each = absurd (some refl)
greatest_is acceptance min (c ∷ []) some each = each.0 ∙ ap Some (omega arith)
greatest_is acceptance min (c ∷ d ∷ cs) some each =
    (let rest = greatest_is acceptance min (d ∷ cs) (λ e. cc (e)) each.1 in λ i. greater (each.0 i) (rest i))

module _ (bounds : List Key) (h : History) (t : ℕ) (min : Key
    → ℕ) (run : IsWorldRun bounds h) (some : set_at h t ≢ []) (had : (k : Key) → mutation_at (set_at h t) k ≢ None
    → HadAsyncLock h t k (min k)) where
  all : (k : Key) → mutation_at (set_at h t) k ≢ None → IsAsync h t k (min k)
  all k within = is_async h t k (min k) (had k within)

  no_two_phase : HasTwoPhaseLock h t → ⊥
  no_two_phase has =
      let is = all has.key (does_within (declared h) t has.key has.by.lock.mutation
      ((run_told bounds h run).0.sound.inv.acceptances t has.key has.by has.stands).does) in
      let same : is.by ≡ has.by = some_same is.by has.by (sym is.stands ∙ has.stands) in
      cc (is.async, same, has.two_phase)

  minimum : (k : Key) → mutation_at (set_at h t) k ≢ None → async_minimum (accepted h t k) ≡ Some (min k)
  minimum k within =
      let is = all k within in
      ap async_minimum is.stands ∙ async_min is.by is.async ∙ ap Some (is.min no_two_phase)

  pub all_async : greatest (accepted h t) (set_at h t) ≡ Some (greatest_of min (set_at h t))
  all_async = greatest_is (accepted h t) min (set_at h t) some
      (each_in (λ k. async_minimum (accepted h t k)
      ≡ Some (min k)) (set_at h t) (set_at h t) (λ k within. within) minimum)

  -- so it is committed there
  pub decided_async : decided h t ≡ Done (fate.Committed (greatest_of min (set_at h t)))
  decided_async = (run_told bounds h run).0.ends.all_async t (greatest_of min (set_at h t)) all_async
