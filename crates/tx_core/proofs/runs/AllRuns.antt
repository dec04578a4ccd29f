-- What holds of every legal run, by induction, and so of every world run.
use Rattle.std.proofs.Common.{◌≡◌, ℕ, ◌<◌, ◌≤◌, inl, inr, List, [], ◌∷◌, Option, Some, refl, sym, ap, subst, ◌∙◌, arith}
use Rattle.std.specs.Prelude.{Contains}
use Rattle.tx_types.specs.declared.key.Key.{Key}
use Rattle.tx_types.specs.declared.lock.LockInfo.{LockInfo}
use Rattle.tx_types.specs.declared.mutation.Fate.{Fate}
use Rattle.tx_machine.specs.Machine.{State, Open, Done, Table, table_of, IsRun}
use Rattle.tx_plan.specs.declared.body.Body.{Body}
use Rattle.tx_plan.specs.declared.body.Body.TheVariants.{Get, Scan, Prewrite, Commit, BatchRollback, TxnHeartBeat, CheckTxnStatus, CheckSecondaryLocks, ResolveLock, RaiseSafe, LocksBelow, Collect}
use Rattle.tx_plan.specs.declared.answer.Answer.{Answer}
use Rattle.tx_plan.specs.declared.answer.Answer.TheVariants.{Resolved, WriteConflict, CommitTsExpired, TxnNotFound, AlreadyExists}
use Rattle.tx_plan.specs.Answers.{Answers, start_in}
use Rattle.tx_core.specs.declared.event.Taken.{Taken}
use Rattle.tx_core.specs.declared.event.Event.{Event}
use Rattle.tx_core.specs.declared.event.Event.TheVariants.{Drawn, Began, Declared, Answered, Stopped, Took}
use Rattle.tx_core.specs.Histories.{History, last, set_at, left}
use Rattle.tx_core.specs.Decisions.{effect_in, accepted, decision, first_decided, decided, fate_in}
use Rattle.tx_core.specs.Laws.{WasToldOf}
use Rattle.tx_core.specs.Worlds.{Holds, IsWorldRun}
use Rattle.tx_core.specs.Legal.{IsLegalRead, IsLegalRequest, IsLegallyTaken, IsLegal, IsLegalRun}
use Rattle.tx_core.specs.Shadow.{shadow}
use Rattle.tx_core.specs.Truth.{HasEnded, EndsBy, IsTrueAnswer}
use Rattle.tx_core.proofs.view.View.{View, LiesBelow}
use Rattle.tx_core.proofs.changes.Reads.{Passes}
use Rattle.tx_core.proofs.view.Tables.{Shows, ended_decided}
use Rattle.tx_core.proofs.view.HistoryView.{shown_in, view}
use Rattle.tx_core.proofs.requests.Good.{true_end, Good, Next, took}
use Rattle.tx_core.proofs.requests.Get.{next_get}
use Rattle.tx_core.proofs.requests.Scan.{next_scan}
use Rattle.tx_core.proofs.requests.Prewrite.{next_prewrite}
use Rattle.tx_core.proofs.requests.Commit.{next_commit}
use Rattle.tx_core.proofs.requests.BatchRollback.{next_rollback}
use Rattle.tx_core.proofs.requests.TxnHeartBeat.{next_heart_beat}
use Rattle.tx_core.proofs.requests.CheckTxnStatus.{next_check_status}
use Rattle.tx_core.proofs.requests.CheckSecondaryLocks.{next_check_secondary}
use Rattle.tx_core.proofs.requests.ResolveLock.{next_resolve}
use Rattle.tx_core.proofs.requests.RaiseSafe.{next_raise_safe}
use Rattle.tx_core.proofs.requests.LocksBelow.{next_locks_below}
use Rattle.tx_core.proofs.requests.Collect.{next_collect}
use Rattle.tx_core.proofs.locks.Shown.{ToldShown, told_first, told_next, told_promised}
use Rattle.tx_core.proofs.runs.Legal.{legal_run}
use Rattle.tx_core.proofs.runs.Events.{good_first, good_drawn, good_began, good_declared, good_answered, good_stopped}

-- ---- an answer that tells of an end tells what is decided

module _ (table : Table) (w : View) (t : ℕ) (s : Shows table w) where
  named_end : (named : Option ℕ) (e : Fate) → named ≡ Some t → EndsBy table named (Some e) → w.decided t ≡ Done e
  named_end named e is ended = ended_decided table w t e s (subst (λ o. EndsBy table o (Some e)) is ended)

  told_fate : (body : Body) (a : Answer) (end : Fate) → start_in body ≡ Some t
      → EndsBy table (start_in body) (fate_in a) → fate_in a ≡ Some end → w.decided t ≡ Done end
  told_fate body a end is truth tells =
      named_end (start_in body) end is (subst (EndsBy table (start_in body)) tells truth)

  -- an answer that tells a fate is no read
  told_end : (body : Body) (a : Answer) (end : Fate) → start_in body ≡ Some t → IsTrueAnswer table body a
      → fate_in a ≡ Some end → w.decided t ≡ Done end
  told_end (Get b) a end is truth tells = absurd (cc (is))
  told_end (Scan b) a end is truth tells = absurd (cc (is))
  told_end (Prewrite b) (WriteConflict u c) end is truth tells = absurd (cc (tells))
  told_end (Prewrite b) AlreadyExists end is truth tells = absurd (cc (tells))
  told_end (Commit b) (WriteConflict u c) end is truth tells = absurd truth
  told_end (Commit b) (CommitTsExpired m) end is truth tells = absurd (cc (tells))
  told_end (CheckTxnStatus b) TxnNotFound end is truth tells = absurd (cc (tells))
  told_end (ResolveLock b) (WriteConflict u c) end is truth tells = absurd truth
  told_end (ResolveLock b) (CommitTsExpired m) end is truth tells = absurd truth
  told_end (ResolveLock b) Resolved end is truth tells = absurd (cc (tells))
  told_end body a end is truth tells = told_fate body a end is truth tells

-- what was decided stays so
still_decided : (h : History) (x : Taken) (t : ℕ) (e : Fate) → decided h t ≡ Done e → decided (Took x ∷ h) t ≡ Done e
still_decided h x t e end =
    ap (first_decided (decision (set_at h t) (accepted (Took x ∷ h) t) (effect_in h x) t)) end
    ∙ go (decision (set_at h t) (accepted (Took x ∷ h) t) (effect_in h x) t)
  where
    go : (s : State) → first_decided s (Done e) ≡ Done e
    go Open = refl
    go (Done y) = refl

-- ---- what a region takes

module _ (bounds : List Key) (h : History) (good : Good bounds h) (told : ToldShown bounds h) where
  -- below the minimum of a lock that was told of
  below : (info : LockInfo) → WasToldOf h info → (r : ℕ) → r < info.min
      → LiesBelow (accepted h) (shown_in h) info.start r
  below info was r low = elim (told_promised bounds h told info was) [
    | inl x ↦ inr (omega (arith, x, low))
    | inr x ↦ inl (x.0, x.1, x.2, omega (arith, x.3, low))
  ]

  -- a read passes by the transactions that it may pass by
  passes : (r : ℕ) (bypass : List ℕ) → IsLegalRead h r bypass → (t : ℕ) → Contains bypass t
      → Passes (decided h) (accepted h) (shown_in h) r t
  passes r bypass may t named =
      elim (may t named) [
        | inl gone ↦ inl gone
        | inr rest ↦ elim rest [
          | inl done ↦ inr (inl done)
          | inr shown ↦ inr (inr (subst (λ u. LiesBelow (accepted h) (shown_in h) u r) shown.2 (below shown.0 shown.1 r
              shown.3)))
        ]
      ]

  next_taken : (n : ℕ) (body : Body) (l : ℕ) (a : Answer) → l ≤ last h → IsLegalRequest h body → Holds bounds n body
      → Answers (left h n) l (last h) body a → Next bounds h (took n body l a)
  next_taken n (Get b) l a upto legal holds answers =
      subst (λ m. Next bounds h (took m (Get b) l a)) holds
      (next_get bounds h good b l a (passes b.at b.bypass legal) upto
      (subst (λ m. Answers (left h m) l (last h) (Get b) a) (sym holds) answers))
  next_taken n (Scan b) l a upto legal holds answers =
      next_scan bounds h good n b l a holds (passes b.at b.bypass legal) upto answers
  next_taken n (Prewrite b) l a upto legal holds answers =
      subst (λ m. Next bounds h (took m (Prewrite b) l a)) holds
      (next_prewrite bounds h good b l a legal upto
      (subst (λ m. Answers (left h m) l (last h) (Prewrite b) a) (sym holds) answers))
  next_taken n (Commit b) l a upto legal holds answers =
      subst (λ m. Next bounds h (took m (Commit b) l a)) holds
      (next_commit bounds h good b l a legal
      (subst (λ m. Answers (left h m) l (last h) (Commit b) a) (sym holds) answers))
  next_taken n (BatchRollback b) l a upto legal holds answers =
      subst (λ m. Next bounds h (took m (BatchRollback b) l a)) holds
      (next_rollback bounds h good b l a legal
      (subst (λ m. Answers (left h m) l (last h) (BatchRollback b) a) (sym holds) answers))
  next_taken n (TxnHeartBeat b) l a upto legal holds answers =
      subst (λ m. Next bounds h (took m (TxnHeartBeat b) l a)) holds
      (next_heart_beat bounds h good b l a
      (subst (λ m. Answers (left h m) l (last h) (TxnHeartBeat b) a) (sym holds) answers))
  next_taken n (CheckTxnStatus b) l a upto legal holds answers =
      subst (λ m. Next bounds h (took m (CheckTxnStatus b) l a)) holds
      (next_check_status bounds h good b l a legal
      (subst (λ m. Answers (left h m) l (last h) (CheckTxnStatus b) a) (sym holds) answers))
  next_taken n (CheckSecondaryLocks b) l a upto legal holds answers =
      subst (λ m. Next bounds h (took m (CheckSecondaryLocks b) l a)) holds
      (next_check_secondary bounds h good b l a legal
      (subst (λ m. Answers (left h m) l (last h) (CheckSecondaryLocks b) a) (sym holds) answers))
  next_taken n (ResolveLock b) l a upto legal holds answers =
      subst (λ m. Next bounds h (took m (ResolveLock b) l a)) holds
      (next_resolve bounds h good b l a legal
      (subst (λ m. Answers (left h m) l (last h) (ResolveLock b) a) (sym holds) answers))
  next_taken n (RaiseSafe b) l a upto legal holds answers = next_raise_safe bounds h good n l b a answers
  next_taken n (LocksBelow b) l a upto legal holds answers = next_locks_below bounds h good n l b a answers
  next_taken n (Collect b) l a upto legal holds answers = next_collect bounds h good n l b a answers

  pub next : (x : Taken) → IsLegallyTaken bounds h x → Next bounds h x
  next x may = next_taken x.region x.body x.loaded x.answer may.loaded may.legal
      may.holds may.answers

  good_took : (x : Taken) → Next bounds h x → Good bounds (Took x ∷ h)
  good_took x n =
      record {
        sound = n.sound;
        ends = n.ends;
        told = λ y among t of end tells.
            elim among [
              | inl now ↦ (let same : x ≡ y = cc (now) in
                  told_end (table_of (shadow (Took x ∷ h))) (view bounds (Took x ∷ h)) t n.sound.shows x.body x.answer
                  end (ap (λ (z : Taken). start_in z.body) same ∙ of) n.truth (ap (λ (z : Taken). fate_in z.answer) same
                  ∙ tells))
              | inr before ↦ still_decided h x t end (good.told y before t of end tells)
            ];
      }

  -- ---- every event

  good_next : (e : Event) → IsLegal bounds h e → Good bounds (e ∷ h)
  good_next (Drawn seat n) may = good_drawn bounds h good seat n may
  good_next (Began t) may = good_began bounds h good t may.0 may.1
  good_next (Declared d) may = good_declared bounds h good d may
  good_next (Answered t o) may = good_answered bounds h good t o may.1
  good_next (Stopped seat) may = good_stopped bounds h good seat
  good_next (Took x) may = good_took x (next x may)

-- ---- every history

-- what holds of a history, and of what was shown in it
pub legal_told : (bounds : List Key) (h : History) → IsLegalRun bounds h → Good bounds h × ToldShown bounds h
legal_told bounds [] run = (good_first bounds, told_first bounds)
legal_told bounds (e ∷ h) run =
    let before = legal_told bounds h run.0 in
    (good_next bounds h before.0 before.1 e run.1, told_next bounds h before.0 before.1 e run.1)

pub legal_shadow : (bounds : List Key) (h : History) → IsLegalRun bounds h → IsRun (shadow h)
legal_shadow bounds h run = (legal_told bounds h run).0.sound.run

-- what is decided is how the machine's transaction has ended
pub legal_decisions : (bounds : List Key) (h : History) → IsLegalRun bounds h → (t : ℕ) (end : Fate)
    → decided h t ≡ Done end → HasEnded (table_of (shadow h)) t end
legal_decisions bounds h run t end is = true_end bounds h (legal_told bounds h run).0 t end is

-- ---- every world run

pub run_told : (bounds : List Key) (h : History) → IsWorldRun bounds h → Good bounds h × ToldShown bounds h
run_told bounds h run = legal_told bounds h (legal_run bounds h run)

pub shadow_runs : (bounds : List Key) (h : History) → IsWorldRun bounds h → IsRun (shadow h)
shadow_runs bounds h run = legal_shadow bounds h (legal_run bounds h run)

pub decisions_true : (bounds : List Key) (h : History) → IsWorldRun bounds h → (t : ℕ) (end : Fate)
    → decided h t ≡ Done end → HasEnded (table_of (shadow h)) t end
decisions_true bounds h run = legal_decisions bounds h (legal_run bounds h run)
