-- What came of a request stands in the tables, and is true.
use Rattle.std.proofs.Common.{◌≡◌, ◌⊎◌, ◌≤◌, ◌<◌, ◌+◌, ℕ, nat_lt, inl, inr, true, false, List, ◌∷◌, Option, Some, None, Ok, Err, IfSome, refl, sym, subst, arith}
use Rattle.std.proofs.lemmas.Bool.{cases_Bool, ltb-true, ltb-false}
use Rattle.tx_types.specs.declared.key.Key.{Key}
use Rattle.tx_types.specs.declared.lock.LockInfo.{LockInfo}
use Rattle.tx_types.specs.declared.mutation.Fate.{Fate}
use Rattle.tx_types.specs.declared.mutation.Fate.TheVariants as fate
use Rattle.tx_types.specs.declared.mutation.Mode.TheVariants.{Async}
use Rattle.tx_plan.specs.declared.body.Body.{Body}
use Rattle.tx_plan.specs.declared.body.Body.TheVariants as body
use Rattle.tx_plan.specs.declared.body.CheckTxnStatus.{CheckTxnStatus}
use Rattle.tx_plan.specs.declared.body.CheckSecondaryLocks.{CheckSecondaryLocks}
use Rattle.tx_plan.specs.declared.answer.Answer.{Answer}
use Rattle.tx_plan.specs.declared.answer.Answer.TheVariants as answer
use Rattle.tx_plan.specs.Cells.{Lock, Region, info_of}
use Rattle.tx_plan.specs.Answers.{Answers}
use Rattle.tx_plan.specs.cases.CheckTxnStatus.{ChecksLock, with_minimum}
use Rattle.tx_machine.specs.Machine.{Table, table_of}
use Rattle.tx_core.specs.declared.event.Taken.{Taken}
use Rattle.tx_core.specs.declared.event.Event.TheVariants.{Took}
use Rattle.tx_core.specs.Histories.{History, last, left, Among, Begins}
use Rattle.tx_core.specs.Shadow.{shadow}
use Rattle.tx_core.specs.Truth.{IsTrueAnswer}
use Rattle.tx_core.specs.Worlds.{IsWorldRun}
use Rattle.tx_core.proofs.runs.Truths.{all_true}
use Rattle.tx_core.proofs.seats.Beginnings.{extends_begins, run_beginning}
use Rattle.tx_core.proofs.seats.Stays.{last_on, among_on}
use Rattle.tx_journal.specs.Known.{Known}
use Rattle.tx_journal.specs.Replies.{Asked, Given, IsTold}
use Rattle.tx_journal.specs.Senders.{Reached}
use Rattle.tx_client.specs.Facts.{WasAnswered}
use Rattle.tx_client.specs.Learns.{response_by, response_of, Learns}

-- A region gave this answer, having loaded a number no less than the last one that the asker had
-- seen; it is true; and who learns it has it in what it has seen.
pub record Came (by new : History) (b : Body) (a : Answer) : Type 0 where
  pub region : Region
  pub loaded : ℕ
  pub top : ℕ
  pub answers : Answers region loaded top b a
  pub upto : last by ≤ loaded
  pub table : Table
  pub holds : IsTrueAnswer table b a
  pub was : WasAnswered new b a

-- an answer is to the request that was sent
abbrev pub AnswersAsked : {S : Type 0} → (S → Asked → Reached → S → Type 0) → Type 0
AnswersAsked {S} sends = (a b : S) (q : Asked) (g : Given) → sends a q (Ok g) b → g.request ≡ q

came_told : (bounds : List Key) (g : Given) (a : Answer) (new : History) → Begins g.events new → IsTold bounds g a
    → Came g.request.by new g.request.body a
came_told bounds g a new begins told =
    let y : Taken =
    record { region = told.region; body = g.request.body; loaded = last told.tells.point; answer = a } in
    let run : IsWorldRun bounds (Took y ∷ told.tells.before) =
    subst (IsWorldRun bounds) told.tells.ends told.tells.run in
    record {
      region = left told.tells.before told.region;
      loaded = last told.tells.point;
      top = last told.tells.before;
      answers = run.1.answers;
      upto =
          last_on bounds g.request.by told.tells.point
          (run_beginning bounds told.tells.point told.tells.before run.0 told.tells.since) told.tells.sender;
      table = table_of (shadow (Took y ∷ told.tells.before));
      holds = (all_true bounds (Took y ∷ told.tells.before) run).1.0;
      was = record {
        by = y;
        among =
            among_on g.events new begins (Took y) (subst (λ h. Among h (Took y)) (sym told.tells.ends) (inl refl));
        asked = refl;
        told = refl;
      };
    }

module _ {S : Type 0} (sends : S → Asked → Reached → S → Type 0) (bounds : List Key) (asked : AnswersAsked sends) where
  pub came : (k new : Known) (a b : S) (q : Body) (reached : Reached) (x : Answer)
      → sends a (record { by = k.events; body = q }) reached b → Learns bounds k reached new
      → response_of reached ≡ Ok x → Came k.events new.events q x
  came k new a b q (Err l) x sent learns e = absurd (cc (e))
  came k new a b q (Ok g) x sent learns e = go g.answer learns.4.told e
    where
      go : (o : Option Answer) → IfSome o (IsTold bounds g) → response_by o ≡ Ok x
          → Came k.events new.events q x
      go None told e = absurd (cc (e))
      go (Some y) told e =
          let same : y ≡ x = cc (e) in
          subst (Came k.events new.events q) same
          (subst (λ (z : Asked). Came z.by new.events z.body y) (asked a b (record { by = k.events; body = q }) g sent)
          (came_told bounds g y new.events learns.3 told))

  -- who has seen a number has seen it still
  pub upto_on : (k new : Known) (reached : Reached) (n : ℕ) → Learns bounds k reached new → n ≤ last k.events
      → n ≤ last new.events
  upto_on k new (Err l) n same le = subst (λ (z : Known). n ≤ last z.events) (sym same) le
  upto_on k new (Ok g) n learns le =
      let more : last k.events ≤ last new.events =
      last_on bounds k.events new.events learns.2.run (extends_begins k.seat k.events new.events learns.2.extends) in
      omega (arith, le, more)

-- ---- what may come of a resolver's requests

abbrev pub Below : Answer → Type 0
Below a = (safe : ℕ) × (a ≡ answer.BelowSafePoint safe)

-- a resolution is done, or refused below the safe point
module _ (by new : History) (key : Key) (start : ℕ) where
  abbrev asks : Fate → Body
  asks end = body.ResolveLock record { key = key; start = start; fate = end }

  pub resolves : (end : Fate) (a : Answer) → Came by new (asks end) a → (a ≡ answer.Resolved) ⊎ Below a
  resolves end a was = go end was.answers was.holds
    where
      go : (end : Fate) → Answers was.region was.loaded was.top (asks end) a → IsTrueAnswer was.table (asks end) a
          → (a ≡ answer.Resolved) ⊎ Below a
      go end (inl x) holds = inr (_, x.1)
      go fate.Aborted (inr (no0, inl (lock, own, is))) holds = inl is
      go (fate.Committed c) (inr (no0, inl (lock, own, inl x))) holds =
          absurd (subst (IsTrueAnswer was.table (asks (fate.Committed c))) x.1 holds)
      go (fate.Committed c) (inr (no0, inl (lock, own, inr (no1, inl (rec, other, is))))) holds =
          absurd (subst (IsTrueAnswer was.table (asks (fate.Committed c))) is holds)
      go (fate.Committed c) (inr (no0, inl (lock, own, inr (no1, inr (no2, is))))) holds = inl is
      go end (inr (no0, inr (no1, is))) holds = inl is

-- another key's lock stands, its commit, or nothing does
pub others_told : (by new : History) (b : CheckSecondaryLocks) (a : Answer) → Came by new (body.CheckSecondaryLocks b) a
    → Below a ⊎ (((info : LockInfo) × (a ≡ answer.Locked info)) ⊎ (((c : ℕ) × (a ≡ answer.Committed c))
    ⊎ (a ≡ answer.Missing)))
others_told by new b a was = go was.answers
  where
    go : Answers was.region was.loaded was.top (body.CheckSecondaryLocks b) a
        → Below a ⊎ (((info : LockInfo) × (a ≡ answer.Locked info)) ⊎ (((c : ℕ) × (a ≡ answer.Committed c))
        ⊎ (a ≡ answer.Missing)))
    go (inl x) = inl (_, x.1)
    go (inr (no0, inl (lock, own, is))) = inr (inl (_, is))
    go (inr (no0, inr (no1, inl (c, own, is)))) = inr (inr (inl (c, is)))
    go (inr (no0, inr (no1, inr (no2, is)))) = inr (inr (inr is))

-- the primary's lock is pushed above the caller, or it is async and the check not forced
pub record IsChecked (b : CheckTxnStatus) (info : LockInfo) : Type 0 where
  pub own : info.start ≡ b.start
  pub key : info.key ≡ b.key
  pub lets : (b.caller < info.min) ⊎ ((info.mode ≡ Async) × (b.force_sync_commit ≡ false))

abbrev pub Checks : CheckTxnStatus → Answer → Type 0
Checks b a = (a ≡ answer.RolledBack) ⊎ (((c : ℕ) × (a ≡ answer.Committed c))
    ⊎ ((info : LockInfo) × (a ≡ answer.Locked info) × IsChecked b info))

lock_checked : (b : CheckTxnStatus) (lock : Lock) (a : Answer) → lock.start ≡ b.start → ChecksLock b lock a
    → Checks b a
lock_checked b lock a own (inl (x, is)) = inr (inr (_, is, record { own = own; key = refl; lets = inr x }))
lock_checked b lock a own (inr (no0, inl x)) = inl x.1
lock_checked b lock a own (inr (no0, inr (no1, inl x))) =
    inr (inr (
      info_of b.key (with_minimum lock (b.caller + 1)),
      x.1,
      record { own = own; key = refl; lets = inl (omega arith) },
    ))
lock_checked b lock a own (inr (no0, inr (no1, inr (no2, is)))) =
    inr (inr (
      info_of b.key lock,
      is,
      record {
        own = own;
        key = refl;
        lets = inl (elim (cases_Bool (nat_lt b.caller lock.min)) [
          | inl e ↦ ltb-true b.caller lock.min e
          | inr e ↦ absurd (no2 (ltb-false b.caller lock.min e))
        ]);
      },
    ))

-- where the caller was drawn, and a rollback is to be left, the transaction is always found
pub checks_told : (by new : History) (b : CheckTxnStatus) (a : Answer) → Came by new (body.CheckTxnStatus b) a
    → b.caller ≤ last by → b.rollback_if_not_exist ≡ true → Below a ⊎ Checks b a
checks_told by new b a was le leaves = go was.answers
  where
    go : Answers was.region was.loaded was.top (body.CheckTxnStatus b) a → Below a ⊎ Checks b a
    go (inl x) = inl (_, x.1)
    go (inr (no0, inl x)) = absurd (omega (arith, le, was.upto, x.0))
    go (inr (no0, inr (no1, inl (lock, own, checks)))) = inr (lock_checked b lock a own.own checks)
    go (inr (no0, inr (no1, inr (no2, inl (c, own, is))))) = inr (inr (inl (c, is)))
    go (inr (no0, inr (no1, inr (no2, inr (no3, inl x))))) = inr (inl x.1)
    go (inr (no0, inr (no1, inr (no2, inr (no3, inr (no4, inl x)))))) = inr (inl x.1)
    go (inr (no0, inr (no1, inr (no2, inr (no3, inr (no4, inr (no5, is))))))) = absurd (no5 leaves)
