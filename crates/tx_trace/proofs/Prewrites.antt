-- A trace goes on with a prewrite that was accepted.
use Rattle.std.proofs.Common.{◌≡◌, ◌≢◌, inl, inr, ℕ, ◌+◌, ◌==◌, Bool, true, false, cond, List, [], ◌∷◌, ◌++◌, Option, Some, None, refl, sym, ap, subst, ◌∙◌}
use Rattle.tx_types.specs.declared.key.Key.{Key}
use Rattle.tx_types.specs.declared.mutation.Mode.TheVariants.{TwoPhase, Async}
use Rattle.tx_types.specs.declared.mutation.Fate.{Fate}
use Rattle.tx_types.specs.declared.mutation.Fate.TheVariants.{Committed}
use Rattle.tx_plan.specs.declared.body.Prewrite.{Prewrite}
use Rattle.tx_plan.specs.declared.body.Body.TheVariants as body
use Rattle.tx_plan.specs.declared.answer.Answer.TheVariants.{Prewritten}
use Rattle.tx_plan.specs.cases.Prewrite.{lock_of}
use Rattle.tx_machine.specs.Keys.{mutation_at}
use Rattle.tx_machine.specs.Machine.{State, Open, Done}
use Rattle.tx_core.specs.declared.event.Declaration.{Declaration}
use Rattle.tx_core.specs.declared.event.Taken.{Taken}
use Rattle.tx_core.specs.declared.event.Event.TheVariants.{Took}
use Rattle.tx_core.specs.Histories.{History, last, declared, set_of, set_at, left}
use Rattle.tx_core.specs.Decisions.{Puts, NoEffect, effect_in, Acceptance, accepted_by, accepted, greatest, committed_at, decision, first_decided, decided}
use Rattle.tx_plan.specs.Own.{is_own}
use Rattle.tx_core.specs.Worlds.{IsWorldRun}
use Rattle.tx_machine.specs.declared.step.Step.{Step}
use Rattle.tx_core.specs.Shadow.{deciding, checking}
use Rattle.tx_core.proofs.Basics.{nat_test, nat_same, key_test, key_same, some_same, cond_true, cond_false}
use Rattle.tx_core.proofs.requests.Good.{took}
use Rattle.tx_core.proofs.runs.Consequences.{accepted_two_phase, prewritten_accepted}
use Rattle.tx_trace.specs.declared.pending.Pending.{Pending}
use Rattle.tx_trace.specs.declared.log.TraceLog.{TraceLog}
use Rattle.tx_trace.specs.Pending.{Awaits, Turns}
use Rattle.tx_trace.specs.Logs.{Stands, HasSteps, steps_of, kept_in, Closes, Locked}
use Rattle.tx_trace.proofs.Waits.{IsNew, Gains, comes}
use Rattle.tx_trace.proofs.TakenRequests.{gone_before, kept_before, done, decides, goes}

module _ (bounds : List Key) (h : History) (n : ℕ) (b : Prewrite) (l m : ℕ) (run :
    IsWorldRun bounds (Took (took n (body.Prewrite b) l (Prewritten m)) ∷ h)) where
  abbrev pub x : Taken
  x = took n (body.Prewrite b) l (Prewritten m)

  abbrev pub t : ℕ
  t = b.start

  -- what it declared
  abbrev pub of : Declaration
  of = run.1.allowed.of

  is : declared h t ≡ Some of
  is = run.1.allowed.stands

  set_is : set_at h t ≡ of.changes
  set_is = ap set_of is

  within : mutation_at of.changes b.key ≢ None
  within none = cc (run.1.allowed.mutation, none)

  -- ---- the effect: the lock of the transaction stands already, or is put

  pub accepted_now : accepted (Took x ∷ h) t b.key ≢ None
  accepted_now = prewritten_accepted bounds h run.0 x b m (sym run.1.holds) refl refl

  pub puts : (own : Bool) → is_own ((left h n).cells b.key).lock t ≡ own → accepted h t b.key ≡ None
      → effect_in h x ≡ Puts b.key (lock_of b m)
  puts true e none = absurd
      (accepted_now (ap (λ o. accepted_by (cond o NoEffect (Puts b.key (lock_of b m))) (last h) t b.key
      (accepted h t b.key)) e ∙ none))
  puts false e none = ap (λ o. cond o NoEffect (Puts b.key (lock_of b m))) e

  is_new : IsNew m (record { lock = lock_of b m; at = last h })
  is_new = record {
    two_phase = λ e. cond_true (m == 0) TwoPhase Async (ap (λ z. z == 0) e);
    async = λ e. elim (nat_test m 0) [ inl y ↦ absurd (e y.1) | inr y ↦ cond_false (m == 0) TwoPhase Async y.0 ];
    min = λ e. elim (nat_test m 0) [ inl y ↦ absurd (e y.1) | inr y ↦ cond_false (m == 0) (b.start + 1) m y.0 ];
  }

  others_by : (own : Bool) (q : Key) → q ≢ b.key
      → accepted_by (cond own NoEffect (Puts b.key (lock_of b m))) (last h) t q (accepted h t q) ≡ accepted h t q
  others_by true q apart = refl
  others_by false q apart =
      elim (key_test b.key q) [ inl y ↦ absurd (apart (sym y.1)) | inr y ↦ rw (nat_same t, y.0) refl ]

  before_by : (own : Bool) (by : Acceptance) → accepted h t b.key ≡ Some by
      → accepted_by (cond own NoEffect (Puts b.key (lock_of b m))) (last h) t b.key (accepted h t b.key) ≡ Some by
  before_by true by e = e
  before_by false by e = rw (nat_same t, key_same b.key, e) refl

  first_by : accepted h t b.key ≡ None
      → accepted_by (Puts b.key (lock_of b m)) (last h) t b.key (accepted h t b.key)
      ≡ Some record { lock = lock_of b m; at = last h }
  first_by e = rw (nat_same t, key_same b.key, e) refl

  gains : Gains (accepted h t) (accepted (Took x ∷ h) t) b.key m
  gains = record {
    others = λ q apart. others_by (is_own ((left h n).cells b.key).lock t) q apart;
    before = λ by e. before_by (is_own ((left h n).cells b.key).lock t) by e;
    now = λ none. (
      record { lock = lock_of b m; at = last h },
      ap (λ e. accepted_by e (last h) t b.key (accepted h t b.key))
          (puts (is_own ((left h n).cells b.key).lock t) refl none) ∙ first_by none,
      is_new,
    );
  }

  -- ---- the decision

  open_by : (own : Bool) (o : Option ℕ) → greatest (accepted (Took x ∷ h) t) (set_at h t) ≡ o → o ≡ None
      → first_decided (decision (set_at h t) (accepted (Took x ∷ h) t) (cond own NoEffect (Puts b.key (lock_of b m))) t)
      Open ≡ Open
  open_by true o e none = refl
  open_by false o e none = rw (nat_same t) (ap (λ z. first_decided (committed_at z) Open) (e ∙ none))

  still_open : decided h t ≡ Open → greatest (accepted (Took x ∷ h) t) of.changes ≡ None → decided (Took x ∷ h) t ≡ Open
  still_open before none =
      ap (first_decided (decision (set_at h t) (accepted (Took x ∷ h) t) (effect_in h x) t)) before
      ∙ open_by (is_own ((left h n).cells b.key).lock t) (greatest (accepted (Took x ∷ h) t) (set_at h t)) refl
      (ap (greatest (accepted (Took x ∷ h) t)) set_is ∙ none)

  decision_put : (c : ℕ) → greatest (accepted (Took x ∷ h) t) (set_at h t) ≡ Some c
      → decision (set_at h t) (accepted (Took x ∷ h) t) (Puts b.key (lock_of b m)) t ≡ Done (Committed c)
  decision_put c e = cond_true (t == t) (committed_at (greatest (accepted (Took x ∷ h) t) (set_at h t))) Open
      (nat_same t) ∙ ap committed_at e

  now_done : (c : ℕ) → decided h t ≡ Open → accepted h t b.key ≡ None
      → greatest (accepted (Took x ∷ h) t) of.changes ≡ Some c → decided (Took x ∷ h) t ≡ Done (Committed c)
  now_done c before none e =
      ap (first_decided (decision (set_at h t) (accepted (Took x ∷ h) t) (effect_in h x) t)) before
      ∙ ap (λ s. first_decided s Open)
      (ap (λ y. decision (set_at h t) (accepted (Took x ∷ h) t) y t)
      (puts (is_own ((left h n).cells b.key).lock t) refl none)
      ∙ decision_put c (ap (greatest (accepted (Took x ∷ h) t)) set_is ∙ e))

  -- ---- what is kept

  module _ (old new : TraceLog) (f : HasSteps h old) (seen : List Step) (checks :
      checking (body.Prewrite b) (effect_in h x) ≡ seen) where
    others_of : (p : Option Pending) (kept : ℕ → Option Pending) → ((q : ℕ) → kept q ≡ cond (t == q) p (kept_in old q))
        → (q : ℕ) → q ≢ t → kept q ≡ kept_in old q
    others_of p kept changed q apart =
        changed q ∙ elim (nat_test t q) [
          | inl y ↦ absurd (apart (sym y.1))
          | inr y ↦ cond_false (t == q) p (kept_in old q) y.0
        ]

    -- it waits on
    waits : (between : ℕ → Option Pending) (now : Pending) → decided h t ≡ Open
        → ((q : ℕ) → between q ≡ cond (t == q) (Some now) (kept_in old q))
        → greatest (accepted (Took x ∷ h) t) of.changes ≡ None → Awaits of (accepted (Took x ∷ h) t) now
        → Closes t (seen ++ steps_of old) between new None → HasSteps (Took x ∷ h) new
    waits between now e changed none awaits closes =
        let after = still_open e none in
        goes bounds h x run old new f t refl refl seen checks [] closes.0
        (ap (λ s. deciding t s (decided (Took x ∷ h) t)) e ∙ ap (deciding t Open) after)
        (λ q apart. closes.1 q ∙ others_of (Some now) between changed q apart)
        (λ d same. (let one : of ≡ d = some_same of d (sym is ∙ same) in
        let kept : kept_in new t ≡ Some now =
        closes.1 t ∙ (changed t ∙ cond_true (t == t) (Some now) (kept_in old t) (nat_same t)) in
        subst (λ s. Stands s d (accepted (Took x ∷ h) t) (kept_in new t)) (sym after)
        (subst (λ o. Stands Open d (accepted (Took x ∷ h) t) o) (sym kept)
        (subst (λ y. Awaits y (accepted (Took x ∷ h) t) now) one awaits))))

    -- it is committed
    commits : (between : ℕ → Option Pending) (now : Pending) (c : ℕ) → decided h t ≡ Open
        → ((q : ℕ) → between q ≡ cond (t == q) (Some now) (kept_in old q))
        → greatest (accepted (Took x ∷ h) t) of.changes ≡ Some c → accepted h t b.key ≡ None
        → Closes t (seen ++ steps_of old) between new (Some c) → HasSteps (Took x ∷ h) new
    commits between now c e changed all none closes =
        decides bounds h x run old new f t refl refl seen checks (Committed c) e (now_done c e none all) closes.0
        (λ q apart. closes.1 q
        ∙ (elim (nat_test t q) [
          | inl y ↦ absurd (apart (sym y.1))
          | inr y ↦ cond_false (t == q) None (between q) y.0
        ] ∙ others_of (Some now) between changed q apart))
        (closes.1 t ∙ cond_true (t == t) None (between t) (nat_same t))

    two_phase : of.mode ≡ TwoPhase → (q : Key) (by : Acceptance) → accepted (Took x ∷ h) t q ≡ Some by
        → by.lock.mode ≡ TwoPhase
    two_phase mode q by e = accepted_two_phase bounds (Took x ∷ h) run t q by e of is mode

    turned : (some : of.changes ≢ []) (between : ℕ → Option Pending) (commit : Option ℕ) → decided h t ≡ Open
        → Turns t b.key m (kept_in old) between commit → Closes t (seen ++ steps_of old) between new commit
        → HasSteps (Took x ∷ h) new
    turned some between commit e turns closes =
        let kept = kept_before bounds h x run old new f t of is e in
        let was : kept.0 ≡ turns.was = some_same kept.0 turns.was (sym kept.1 ∙ turns.before) in
        elim (comes of some (accepted h t) (accepted (Took x ∷ h) t) b.key m within gains two_phase turns.was turns.now
        commit (subst (Awaits of (accepted h t)) was kept.2) turns.accepts) [
          | inl y ↦ waits between turns.now e turns.changed y.1 y.2
              (subst (Closes t (seen ++ steps_of old) between new) y.0 closes)
          | inr y ↦ commits between turns.now y.0 e turns.changed y.2 y.3
              (subst (Closes t (seen ++ steps_of old) between new) y.1 closes)
        ]

    pub locked : of.changes ≢ [] → Locked t b.key m (seen ++ steps_of old) (kept_in old) new → HasSteps (Took x ∷ h) new
    locked some a = go (decided h t) refl
      where
        unchanged : (end : Fate) → decided h t ≡ Done end → kept_in old t ≡ None
            → ((q : ℕ) → a.between q ≡ kept_in old q) → Closes t (seen ++ steps_of old) a.between new None
            → HasSteps (Took x ∷ h) new
        unchanged end e gone same closes =
            done bounds h x run old new f t refl refl seen checks end e gone closes.0 (λ q. closes.1 q ∙ same q)

        go : (s : State) → decided h t ≡ s → HasSteps (Took x ∷ h) new
        go (Done end) e =
            (let gone = gone_before bounds h x run old new f t of is end e in
            elim a.accepts [
              | inl y ↦ unchanged end e gone y.1 (subst (Closes t (seen ++ steps_of old) a.between new) y.2 a.closes)
              | inr y ↦ absurd (cc (gone, y.before))
            ])
        go Open e =
            elim a.accepts [
              | inl y ↦ (let kept = kept_before bounds h x run old new f t of is e in let some_kept = kept.1 in
                  absurd (cc (y.0, some_kept)))
              | inr y ↦ turned some a.between a.commit e y a.closes
            ]
