-- What an answer says of a key's lock is so.
use Rattle.std.proofs.Common.{◌≡◌, ◌≢◌, ℕ, ◌⊎◌, inl, inr, zero, suc, List, [], ◌∷◌, Option, Some, None, refl, sym, ap, subst, ◌∙◌, arith}
use Rattle.std.specs.Prelude.{Contains}
use Rattle.std.proofs.lemmas.List.Elements.{Contains-push}
use Rattle.tx_types.specs.declared.key.Key.{Key}
use Rattle.tx_types.specs.declared.lock.LockInfo.{LockInfo}
use Rattle.tx_types.specs.declared.mutation.Change.{Change}
use Rattle.tx_types.specs.declared.mutation.Mode.{Mode}
use Rattle.tx_types.specs.declared.mutation.Mode.TheVariants.{TwoPhase, Async}
use Rattle.tx_machine.specs.Keys.{mutation_at}
use Rattle.tx_plan.specs.declared.body.Body.TheVariants as request
use Rattle.tx_plan.specs.declared.body.Prewrite.{Prewrite}
use Rattle.tx_plan.specs.declared.body.BatchRollback.{BatchRollback}
use Rattle.tx_plan.specs.declared.body.CheckSecondaryLocks.{CheckSecondaryLocks}
use Rattle.tx_plan.specs.declared.answer.Answer.{Answer}
use Rattle.tx_plan.specs.declared.answer.Answer.TheVariants.{Prewritten, Locked}
use Rattle.tx_plan.specs.Cells.{Region, info_of}
use Rattle.tx_plan.specs.Answers.{Answers}
use Rattle.tx_core.specs.declared.event.Taken.{Taken}
use Rattle.tx_core.specs.declared.event.Event.TheVariants.{Took}
use Rattle.tx_core.specs.Histories.{History, last, declared, set_at, left, Among}
use Rattle.tx_core.specs.Decisions.{Acceptance, accepted, HasTwoPhaseLock, infos_in}
use Rattle.tx_core.specs.Worlds.{IsWorldRun}
use Rattle.tx_core.specs.Laws.{WasToldOf, IsLockOf}
use Rattle.tx_core.proofs.Basics.{key_test, some_same, is_some}
use Rattle.tx_core.proofs.view.View.{does_within}
use Rattle.tx_core.proofs.runs.AllRuns.{run_told}
use Rattle.tx_core.proofs.locks.AllAsync.{prewritten_lock}
use Rattle.tx_core.proofs.locks.ToldLocks.{told_lock}
use Rattle.tx_types.specs.Locks.{async_min}
use Rattle.tx_client.specs.Facts.{WasAnswered, Mark}

mode_of : (m : Mode) → (m ≡ TwoPhase) ⊎ (m ≡ Async)
mode_of TwoPhase = inl refl
mode_of Async = inr refl

-- ---- whether a transaction has a two-phase lock

record IsTwoPhase (acceptance : Key → Option Acceptance) : Type 0 where
  pub key : Key
  pub by : Acceptance
  pub stands : acceptance key ≡ Some by
  pub two_phase : by.lock.mode ≡ TwoPhase

abbrev AllAsync : (Key → Option Acceptance) → List Change → Type 0
AllAsync acceptance set = (k : Key) (by : Acceptance) → mutation_at set k ≢ None → acceptance k ≡ Some by
    → by.lock.mode ≡ Async

-- some key of a set is accepted in two phases, or each one that is accepted is async
sought : (acceptance : Key → Option Acceptance) (set : List Change) → IsTwoPhase acceptance ⊎ AllAsync acceptance set
sought acceptance [] = inr (λ k by some at. absurd (some refl))
sought acceptance (c ∷ cs) =
    elim (sought acceptance cs) [ inl x ↦ inl x | inr rest ↦ here (acceptance c.key) refl rest ]
  where
    more : ((by : Acceptance) → acceptance c.key ≡ Some by → by.lock.mode ≡ Async) → AllAsync acceptance cs
        → AllAsync acceptance (c ∷ cs)
    more first rest k by some at =
        elim (key_test c.key k) [
          | inl y ↦ first by (subst (λ q. acceptance q ≡ Some by) (sym y.1) at)
          | inr y ↦ rest k by (λ none. some (rw y.0 none)) at
        ]

    here : (o : Option Acceptance) → acceptance c.key ≡ o → AllAsync acceptance cs
        → IsTwoPhase acceptance ⊎ AllAsync acceptance (c ∷ cs)
    here None e rest = inr (more (λ by at. absurd (cc (e, at))) rest)
    here (Some was) e rest =
        elim (mode_of was.lock.mode) [
          | inl two ↦ inl (record { key = c.key; by = was; stands = e; two_phase = two })
          | inr async ↦ inr (more (λ by at. subst (λ (x : Acceptance). x.lock.mode ≡ Async)
              (some_same was by (sym e ∙ at)) async) rest)
        ]

-- ---- what a region took

-- what stands in a world run was taken after a beginning of it
pub taken_there : (bounds : List Key) (h : History) (y : Taken) → IsWorldRun bounds h → Among h (Took y)
    → (before : History) × IsWorldRun bounds (Took y ∷ before)
taken_there bounds [] y run among = absurd among
taken_there bounds (e ∷ h) y run (inl now) = (h, subst (λ x. IsWorldRun bounds (x ∷ h)) now run)
taken_there bounds (e ∷ h) y run (inr before) = taken_there bounds h y run.0 before

-- the lock that a check finds is the transaction's own, on the key that was asked
abbrev IsOwn : CheckSecondaryLocks → LockInfo → Type 0
IsOwn b info = (info.start ≡ b.start) × (info.key ≡ b.key)

finds_own : (r : Region) (l top : ℕ) (b : CheckSecondaryLocks) (a : Answer) (info : LockInfo)
    → Answers r l top (request.CheckSecondaryLocks b) a → a ≡ Locked info → IsOwn b info
finds_own r l top b a info (inl x) e = absurd (cc (x.1, e))
finds_own r l top b a info (inr (no0, inl (lock, own, is))) e =
    let same : info_of b.key lock ≡ info = cc (is, e) in
    subst (IsOwn b) same (own.own, refl)
finds_own r l top b a info (inr (no0, inr (no1, inl (c, own, is)))) e = absurd (cc (is, e))
finds_own r l top b a info (inr (no0, inr (no1, inr (no2, is)))) e = absurd (cc (is, e))

-- a rollback finds none
finds_none : (r : Region) (l top : ℕ) (b : BatchRollback) (a : Answer) (info : LockInfo)
    → Answers r l top (request.BatchRollback b) a → a ≡ Locked info → ⊥
finds_none r l top b a info (inl x) e = cc (x.1, e)
finds_none r l top b a info (inr (no0, inl (lock, own, is))) e = cc (is, e)
finds_none r l top b a info (inr (no0, inr (no1, inl (c, own, is)))) e = cc (is, e)
finds_none r l top b a info (inr (no0, inr (no1, inr (no2, is)))) e = cc (is, e)

-- ---- marks

module _ (bounds : List Key) (h : History) (run : IsWorldRun bounds h) where
  two_phase_or_not : (t : ℕ) → HasTwoPhaseLock h t ⊎ (HasTwoPhaseLock h t → ⊥)
  two_phase_or_not t =
      elim (sought (accepted h t) (set_at h t)) [
        | inl x ↦ inl (record { key = x.key; by = x.by; stands = x.stands; two_phase = x.two_phase })
        | inr all ↦ inr (λ has.
            (let async = all has.key has.by
            (does_within (declared h) t has.key
            has.by.lock.mutation ((run_told bounds h run).0.sound.inv.acceptances t has.key has.by has.stands).does)
            has.stands in
            cc (async, has.two_phase)))
      ]

  -- a lock that was told of is what it is marked as
  pub mark_of : (info : LockInfo) → IsLockOf h info → Mark h info.start info.key (Some (async_min info.mode info.min))
  mark_of info is = by_mode info.mode refl
    where
      there : accepted h info.start info.key ≢ None
      there = is_some (accepted h info.start info.key) is.by is.accepted

      by_min : (n : ℕ) → info.min ≡ n → info.mode ≡ Async → Mark h info.start info.key (Some n)
      by_min (suc m) e async = record { info = info; is = is; key = refl; own = refl; async = async; min = e }
      by_min zero e async =
          elim (two_phase_or_not info.start) [
            | inl has ↦ record { accepted = there; two_phase = has }
            | inr never ↦ absurd (omega (
              arith,
              e,
              is.min (inr never),
              ((run_told bounds h run).0.sound.inv.acceptances info.start info.key is.by is.accepted).above,
            ))
          ]

      by_mode : (m : Mode) → info.mode ≡ m → Mark h info.start info.key (Some (async_min m info.min))
      by_mode TwoPhase e = record {
        accepted = there;
        two_phase = record { key = info.key; by = is.by; stands = is.accepted; two_phase = is.mode ∙ e };
      }
      by_mode Async e = by_min info.min refl e

  -- a prewrite that was accepted
  pub prewritten_mark : (b : Prewrite) (m : ℕ) → WasAnswered h (request.Prewrite b) (Prewritten m)
      → Mark h b.start b.key (Some m)
  prewritten_mark b m was =
      let has = prewritten_lock bounds h b m run
      (record { by = was.by; among = was.among; asked = was.asked; told = was.told }) in
      subst (λ (x : ℕ × ℕ). Mark h x.0 b.key (Some x.1)) (λ j. (has.own j, has.named j))
      (mark_of (info_of b.key has.lock) has.is)

  -- a lock that a check found
  pub checked_mark : (b : CheckSecondaryLocks) (info : LockInfo)
      → WasAnswered h (request.CheckSecondaryLocks b) (Locked info)
      → Mark h b.start b.key (Some (async_min info.mode info.min))
  checked_mark b info was =
      let took = taken_there bounds h was.by run was.among in
      let gave : Answers (left took.0 was.by.region) was.by.loaded (last took.0) (request.CheckSecondaryLocks b)
      was.by.answer = subst (λ x. Answers (left took.0 was.by.region) was.by.loaded (last took.0) x was.by.answer)
      was.asked took.1.1.answers in
      let own = finds_own (left took.0 was.by.region) was.by.loaded (last took.0) b was.by.answer info gave was.told in
      let told : WasToldOf h info =
      record {
        by = was.by;
        among = was.among;
        told = subst (λ (xs : List LockInfo). Contains xs info) (ap infos_in (sym was.told))
            (Contains-push [] info);
      } in
      subst (λ (x : ℕ × Key). Mark h x.0 x.1 (Some (async_min info.mode info.min))) (λ j. (own.0 j, own.1 j))
      (mark_of info (told_lock bounds h info run told))

  -- a rollback tells of no lock
  pub rolled_unlocked : (b : BatchRollback) (info : LockInfo) → WasAnswered h (request.BatchRollback b) (Locked info)
      → ⊥
  rolled_unlocked b info was =
      let took = taken_there bounds h was.by run was.among in
      let gave : Answers (left took.0 was.by.region) was.by.loaded (last took.0) (request.BatchRollback b)
      was.by.answer = subst (λ x. Answers (left took.0 was.by.region) was.by.loaded (last took.0) x was.by.answer)
      was.asked took.1.1.answers in
      finds_none (left took.0 was.by.region) was.by.loaded (last took.0) b was.by.answer info gave was.told
