-- A trace goes on with each request.
use Rattle.std.proofs.Common.{◌≡◌, ◌≢◌, inl, inr, ℕ, true, List, [], ◌∷◌, ◌++◌, Option, Some, None, Result, Ok, Err, refl, sym, ap, subst, ◌∙◌}
use Rattle.std.specs.Result.{OnOk}
use Rattle.tx_types.specs.declared.key.Key.{Key}
use Rattle.tx_types.specs.declared.mutation.Change.{Change}
use Rattle.tx_plan.specs.declared.body.Body.{Body}
use Rattle.tx_plan.specs.declared.body.Body.TheVariants as body
use Rattle.tx_plan.specs.declared.body.Get.{Get}
use Rattle.tx_plan.specs.declared.body.Scan.{Scan}
use Rattle.tx_plan.specs.declared.body.Prewrite.{Prewrite}
use Rattle.tx_plan.specs.declared.body.Commit.{Commit}
use Rattle.tx_plan.specs.declared.body.BatchRollback.{BatchRollback}
use Rattle.tx_plan.specs.declared.body.TxnHeartBeat.{TxnHeartBeat}
use Rattle.tx_plan.specs.declared.body.CheckTxnStatus.{CheckTxnStatus}
use Rattle.tx_plan.specs.declared.body.CheckSecondaryLocks.{CheckSecondaryLocks}
use Rattle.tx_plan.specs.declared.body.ResolveLock.{ResolveLock}
use Rattle.tx_plan.specs.declared.answer.Answer.{Answer}
use Rattle.tx_plan.specs.declared.answer.Answer.TheVariants.{Prewritten, Committed, RolledBack, Missing}
use Rattle.tx_plan.specs.Answers.{start_in}
use Rattle.tx_plan.specs.Cells.{Cells}
use Rattle.tx_machine.specs.Machine.{Open, Done}
use Rattle.tx_core.specs.declared.event.Taken.{Taken}
use Rattle.tx_core.specs.declared.event.Event.TheVariants.{Took}
use Rattle.tx_core.specs.Histories.{History, last, declared, is_first, left}
use Rattle.tx_types.specs.declared.mutation.Fate.{Fate}
use Rattle.tx_types.specs.declared.mutation.Fate.TheVariants as fate
use Rattle.tx_core.specs.Decisions.{Effect, NoEffect, effect, effect_in, accepted, decided, fate_in}
use Rattle.tx_core.specs.Allowed.{Allowed}
use Rattle.tx_core.specs.Worlds.{IsWorldRun}
use Rattle.tx_core.specs.Shadow.{checking}
use Rattle.tx_core.specs.EventSteps.{reading}
use Rattle.tx_core.proofs.Basics.{some_of}
use Rattle.tx_core.proofs.view.View.{first_declared}
use Rattle.tx_core.proofs.runs.Consequences.{decided_declared}
use Rattle.tx_core.proofs.requests.Good.{took}
use Rattle.tx_trace.specs.declared.log.TraceLog.{TraceLog}
use Rattle.tx_trace.specs.Logs.{steps_of, checked_in, IsLogOf, Tracks, LogGoesOn, AddsSteps, TellsFate, Prewrites}
use Rattle.tx_trace.proofs.TakenRequests.{reads, tells}
use Rattle.tx_trace.proofs.Effects.{none_put}
use Rattle.tx_trace.proofs.InsertChecks.{accepts}

-- what follows of a fact that holds where a call went well
pub on_ok : {T E : Type 0} (r : Result T E) (A B : Type 0) → (A → B) → OnOk r A → OnOk r B
on_ok (Ok x) A B f a = f a
on_ok (Err e) A B f a = tt

-- the trace goes on with this request and answer, of whatever region and with
-- whatever number loaded
abbrev pub Follow : TraceLog → Body → Answer → TraceLog → Type 0
Follow old body a new = (x : Taken) → x.body ≡ body → x.answer ≡ a → LogGoesOn old (Took x) new

module _ (old new : TraceLog) where
  of_taken : (body : Body) (a : Answer)
      → ((bounds : List Key) (h : History) (n l : ℕ) → IsWorldRun bounds (Took (took n body l a) ∷ h) → IsLogOf h old
      → IsLogOf (Took (took n body l a) ∷ h) new) → Follow old body a new
  of_taken body a all x e f bounds h run t =
      let same : took x.region body x.loaded a ≡ x =
      λ i. record { region = x.region; body = sym e i; loaded = x.loaded; answer = sym f i } in
      subst (λ y. IsLogOf (Took y ∷ h) new) same
      (all bounds h x.region x.loaded (subst (λ y. IsWorldRun bounds (Took y ∷ h)) (sym same) run) t)

  -- ---- nothing more is accepted

  -- what is not the acceptance of a prewrite leaves which keys were checked
  apart_tracks : (h : History) (x : Taken)
      → ((b : Prewrite) (m : ℕ) → x.body ≡ body.Prewrite b → x.answer ≡ Prewritten m → ⊥)
      → ((t : ℕ) (k : Key) → checked_in new t k ≡ checked_in old t k) → Tracks h (checked_in old)
      → Tracks (Took x ∷ h) (checked_in new)
  apart_tracks h x other still f =
      let same : (t : ℕ) (k : Key) → accepted (Took x ∷ h) t k ≡ accepted h t k =
      λ t k. none_put (last h) t k (accepted h t k) (left h x.region).cells x.body x.answer other in
      record {
        accepts = λ t k e none. f.accepts t k (sym (still t k) ∙ e) (sym (same t k) ∙ none);
        inserts = λ t d k v is ins now. still t k ∙ f.inserts t d k v is ins (λ none. now (same t k ∙ none));
      }

  told_still : (t : ℕ) (o : Option Fate) → TellsFate t o old new → (q : ℕ) (k : Key)
      → checked_in new q k ≡ checked_in old q k
  told_still t None w = w.still
  told_still t (Some end) w = elim w [ inl y ↦ y.1.still | inr y ↦ y.still ]

  -- ---- reads

  pub get_adds : (b : Get) (a : Answer) → AddsSteps (reading (body.Get b) a) old new → Follow old (body.Get b) a new
  get_adds b a w = of_taken (body.Get b) a
      (λ bounds h n l run t. (
        reads bounds h (took n (body.Get b) l a) run old new t.0 refl refl w,
        apart_tracks h (took n (body.Get b) l a) (λ c m e f. cc e) w.still t.1,
      ))

  pub scan_adds : (b : Scan) (a : Answer) → AddsSteps (reading (body.Scan b) a) old new → Follow old (body.Scan b) a new
  scan_adds b a w = of_taken (body.Scan b) a
      (λ bounds h n l run t. (
        reads bounds h (took n (body.Scan b) l a) run old new t.0 refl refl w,
        apart_tracks h (took n (body.Scan b) l a) (λ c m e f. cc e) w.still t.1,
      ))

  -- ---- requests that name a transaction

  no_commit : (cells : Key → Cells) (b : Commit) (a : Answer) → fate_in a ≡ None
      → effect cells (body.Commit b) a ≡ NoEffect
  no_commit cells b (Committed c) e = absurd (cc e)
  no_commit cells b _ e = refl

  no_rollback : (cells : Key → Cells) (b : BatchRollback) (a : Answer) → fate_in a ≡ None
      → effect cells (body.BatchRollback b) a ≡ NoEffect
  no_rollback cells b RolledBack e = absurd (cc e)
  no_rollback cells b _ e = refl

  no_check : (cells : Key → Cells) (b : CheckTxnStatus) (a : Answer) → fate_in a ≡ None
      → effect cells (body.CheckTxnStatus b) a ≡ NoEffect
  no_check cells b RolledBack e = absurd (cc e)
  no_check cells b _ e = refl

  no_missing : (cells : Key → Cells) (b : CheckSecondaryLocks) (a : Answer) → fate_in a ≡ None
      → effect cells (body.CheckSecondaryLocks b) a ≡ NoEffect
  no_missing cells b Missing e = absurd (cc e)
  no_missing cells b _ e = refl

  no_prewrite : (cells : Key → Cells) (b : Prewrite) (a : Answer) → ((m : ℕ) → a ≢ Prewritten m)
      → effect cells (body.Prewrite b) a ≡ NoEffect
  no_prewrite cells b (Prewritten m) other = absurd (other m refl)
  no_prewrite cells b _ other = refl

  -- who may commit has declared
  commit_declared : (bounds : List Key) (h : History) (b : Commit) → IsWorldRun bounds h → Allowed h (body.Commit b)
      → declared h b.start ≢ None
  commit_declared bounds h b run (inl done) = decided_declared bounds h run b.start (fate.Committed b.commit) done
  commit_declared bounds h b run (inr may) =
      λ none. (cc (none, (first_declared (declared h b.start) b.key may.primary).1))

  pub commit_adds : (b : Commit) (a : Answer) → TellsFate b.start (fate_in a) old new → Follow old (body.Commit b) a new
  commit_adds b a w = of_taken (body.Commit b) a
      (λ bounds h n l run t. (let of =
      some_of (declared h b.start) (commit_declared bounds h b run.0 run.1.allowed) in (
        tells bounds h (took n (body.Commit b) l a) run old new t.0 b.start refl refl refl of.0 of.1
            (λ e still. no_commit (left h n).cells b a e) w,
        apart_tracks h (took n (body.Commit b) l a) (λ c m e f. cc e) (told_still b.start (fate_in a) w) t.1,
      )))

  pub rollback_adds : (b : BatchRollback) (a : Answer) → TellsFate b.start (fate_in a) old new
      → Follow old (body.BatchRollback b) a new
  rollback_adds b a w =
      of_taken (body.BatchRollback b) a
      (λ bounds h n l run t. (
        tells bounds h (took n (body.BatchRollback b) l a) run old new t.0 b.start refl refl refl run.1.allowed.of
            run.1.allowed.stands (λ e still. no_rollback (left h n).cells b a e) w,
        apart_tracks h (took n (body.BatchRollback b) l a) (λ c m e f. cc e) (told_still b.start (fate_in a) w) t.1,
      ))

  pub check_adds : (b : CheckTxnStatus) (a : Answer) → TellsFate b.start (fate_in a) old new
      → Follow old (body.CheckTxnStatus b) a new
  check_adds b a w = of_taken (body.CheckTxnStatus b) a
      (λ bounds h n l run t. (let of = first_declared (declared h b.start) b.key run.1.allowed.primary in (
        tells bounds h (took n (body.CheckTxnStatus b) l a) run old new t.0 b.start refl refl refl of.0 of.1
            (λ e still. no_check (left h n).cells b a e) w,
        apart_tracks h (took n (body.CheckTxnStatus b) l a) (λ c m e f. cc e) (told_still b.start (fate_in a) w) t.1,
      )))

  pub secondary_adds : (b : CheckSecondaryLocks) (a : Answer) → TellsFate b.start (fate_in a) old new
      → Follow old (body.CheckSecondaryLocks b) a new
  secondary_adds b a w =
      of_taken (body.CheckSecondaryLocks b) a
      (λ bounds h n l run t. (
        tells bounds h (took n (body.CheckSecondaryLocks b) l a) run old new t.0 b.start refl refl refl run.1.allowed.of
            run.1.allowed.stands (λ e still. no_missing (left h n).cells b a e) w,
        apart_tracks h (took n (body.CheckSecondaryLocks b) l a) (λ c m e f. cc e) (told_still b.start (fate_in a) w)
            t.1,
      ))

  pub beat_adds : (b : TxnHeartBeat) (a : Answer) → TellsFate b.start (fate_in a) old new
      → Follow old (body.TxnHeartBeat b) a new
  beat_adds b a w = of_taken (body.TxnHeartBeat b) a
      (λ bounds h n l run t. (let of = some_of (declared h b.start) run.1.allowed in (
        tells bounds h (took n (body.TxnHeartBeat b) l a) run old new t.0 b.start refl refl refl of.0 of.1
            (λ e still. refl) w,
        apart_tracks h (took n (body.TxnHeartBeat b) l a) (λ c m e f. cc e)
            (told_still b.start (fate_in a) w) t.1,
      )))

  pub resolve_adds : (b : ResolveLock) (a : Answer) → TellsFate b.start (fate_in a) old new
      → Follow old (body.ResolveLock b) a new
  resolve_adds b a w = of_taken (body.ResolveLock b) a
      (λ bounds h n l run t. (let of = some_of (declared h b.start)
      (decided_declared bounds h run.0 b.start b.fate run.1.allowed) in (
        tells bounds h (took n (body.ResolveLock b) l a) run old new t.0 b.start refl refl refl of.0 of.1
            (λ e still. refl) w,
        apart_tracks h (took n (body.ResolveLock b) l a) (λ c m e f. cc e) (told_still b.start (fate_in a) w) t.1,
      )))

  some_set : (set : List Change) (k : Key) → is_first set k ≡ true → set ≢ []
  some_set [] k e none = cc e
  some_set (c ∷ cs) k e none = cc none

  prewrite_other : (b : Prewrite) (a : Answer) → ((m : ℕ) → a ≢ Prewritten m) → TellsFate b.start (fate_in a) old new
      → Follow old (body.Prewrite b) a new
  prewrite_other b a other w =
      of_taken (body.Prewrite b) a
      (λ bounds h n l run t. (
        tells bounds h (took n (body.Prewrite b) l a) run old new t.0 b.start refl refl
            (ap (checking (body.Prewrite b)) (no_prewrite (left h n).cells b a other)) run.1.allowed.of
            run.1.allowed.stands
            (λ e still. no_prewrite (left h n).cells b a other) w,
        apart_tracks h (took n (body.Prewrite b) l a) (λ c m e f. other m f) (told_still b.start (fate_in a) w) t.1,
      ))

  pub prewrite_adds : (b : Prewrite) (a : Answer) → Prewrites b a old new → Follow old (body.Prewrite b) a new
  prewrite_adds b (Prewritten m) w =
      of_taken (body.Prewrite b) (Prewritten m)
      (λ bounds h n l run t. accepts bounds h n b l m run
      (some_set run.1.allowed.of.changes b.primary run.1.allowed.primary) old new t w)
  prewrite_adds b a w = prewrite_other b a (λ m e. cc e) w

-- ---- requests of a whole region

pub region_adds : (old : TraceLog) (asked : Body) (a : Answer) → start_in asked ≡ None → reading asked a ≡ []
    → ((e : Effect) → checking asked e ≡ []) → ((b : Prewrite) → asked ≢ body.Prewrite b) → Follow old asked a old
region_adds old asked a none unread unchecked other = of_taken old old asked a (λ bounds h n l run t. (
  reads bounds h (took n asked l a) run old old t.0 none (unchecked (effect_in h (took n asked l a)))
      (record { steps = sym (ap (λ r. r ++ steps_of old) unread); same = λ q. refl; still = λ q k. refl }),
  apart_tracks old old h (took n asked l a) (λ b m e f. other b e) (λ q k. refl) t.1,
))
