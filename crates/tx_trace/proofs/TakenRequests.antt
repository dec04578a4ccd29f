-- A trace goes on with a request that a region took.
use Rattle.std.proofs.Common.{◌≡◌, ◌≢◌, inl, inr, ℕ, ◌==◌, List, [], ◌∷◌, ◌++◌, Option, Some, None, refl, sym, ap, subst, ◌∙◌}
use Rattle.tx_types.specs.declared.key.Key.{Key}
use Rattle.tx_types.specs.declared.mutation.Fate.{Fate}
use Rattle.tx_types.specs.declared.mutation.Fate.TheVariants as fate
use Rattle.tx_plan.specs.Answers.{start_in}
use Rattle.tx_machine.specs.declared.step.Step.{Step}
use Rattle.tx_machine.specs.Machine.{State, Open, Done}
use Rattle.tx_core.specs.declared.event.Declaration.{Declaration}
use Rattle.tx_core.specs.declared.event.Taken.{Taken}
use Rattle.tx_core.specs.declared.event.Event.TheVariants.{Took}
use Rattle.tx_core.specs.Histories.{History, last, declared, set_at, left}
use Rattle.tx_core.specs.Decisions.{NoEffect, effect_in, accepted_by, accepted, decision, first_decided, decided, fate_in}
use Rattle.tx_core.specs.Worlds.{IsWorldRun}
use Rattle.tx_core.specs.Shadow.{deciding, deciding_in, checking, shadow}
use Rattle.tx_core.specs.EventSteps.{reading}
use Rattle.tx_core.proofs.Basics.{nat_test, nat_same, some_same, cond_true, cond_false}
use Rattle.tx_core.proofs.runs.Consequences.{told_fate}
use Rattle.tx_core.proofs.seats.Beginnings.{begins_all}
use Rattle.tx_core.proofs.seats.StaysDecided.{decided_on}
use Rattle.tx_trace.specs.declared.pending.Pending.{Pending}
use Rattle.tx_trace.specs.declared.log.TraceLog.{TraceLog}
use Rattle.tx_trace.specs.Pending.{Accepted, Awaits}
use Rattle.tx_trace.specs.Logs.{Stands, HasSteps, steps_of, kept_in, ended, AddsSteps, DecidesKept, TellsFate}
use Rattle.tx_trace.proofs.Effects.{effect_on, accepted_apart, decision_apart}

-- the same of other parts that are equal
pub stands_by : (s z : State) (d : Declaration) (a b : Accepted) (o p : Option Pending) → z ≡ s → b ≡ a → p ≡ o
    → Stands s d a o → Stands z d b p
stands_by s z d a b o p f g e st =
    subst (λ (y : State). Stands y d b p) (sym f)
    (subst (λ (y : Accepted). Stands s d y p) (sym g) (subst (λ (y : Option Pending). Stands s d a y) (sym e) st))

-- the step of a decision
pub decision_step : (t : ℕ) (end : Fate) → deciding t Open (Done end) ≡ ended t end ∷ []
decision_step t (fate.Committed c) = refl
decision_step t fate.Aborted = refl

-- who is not decided is kept
pub open_kept : (d : Declaration) (a : Accepted) (o : Option Pending) → Stands Open d a o
    → (p : Pending) × (o ≡ Some p) × Awaits d a p
open_kept d a None st = absurd st
open_kept d a (Some p) st = (p, refl, st)

module _ (bounds : List Key) (h : History) (x : Taken) (run : IsWorldRun bounds (Took x ∷ h)) where
  -- ---- decisions and acceptances

  pub decided_stays : (t : ℕ) (end : Fate) → decided h t ≡ Done end → decided (Took x ∷ h) t ≡ Done end
  decided_stays t end is = decided_on h (Took x ∷ h) (inr (begins_all h)) t end is

  told : (t : ℕ) (end : Fate) → start_in x.body ≡ Some t → fate_in x.answer ≡ Some end
      → decided (Took x ∷ h) t ≡ Done end
  told t end of tells =
      told_fate bounds (Took x ∷ h) run t end (record { by = x; among = inl refl; of = of; tells = tells })

  other_accepted : (t : ℕ) → start_in x.body ≢ Some t → accepted (Took x ∷ h) t ≡ accepted h t
  other_accepted t apart =
      λ i k. accepted_apart (start_in x.body) t apart (effect_in h x) (last h) k (accepted h t k)
      (effect_on (left h x.region).cells x.body x.answer) i

  other_decided : (t : ℕ) → start_in x.body ≢ Some t → decided (Took x ∷ h) t ≡ decided h t
  other_decided t apart =
      ap (λ s. first_decided s (decided h t))
      (decision_apart (start_in x.body) t apart (set_at h t) (accepted (Took x ∷ h) t) (effect_in h x)
      (effect_on (left h x.region).cells x.body x.answer))

  quiet_accepted : effect_in h x ≡ NoEffect → (t : ℕ) → accepted (Took x ∷ h) t ≡ accepted h t
  quiet_accepted none t = λ i k. accepted_by (none i) (last h) t k (accepted h t k)

  quiet_decided : effect_in h x ≡ NoEffect → (t : ℕ) → decided (Took x ∷ h) t ≡ decided h t
  quiet_decided none t =
      ap (λ e. first_decided (decision (set_at h t) (accepted (Took x ∷ h) t) e t) (decided h t)) none

  module _ (old new : TraceLog) (f : HasSteps h old) where
    -- another transaction stands as it did
    others_stand : (t : ℕ) → start_in x.body ≢ Some t → (d : Declaration) → declared h t ≡ Some d
        → kept_in new t ≡ kept_in old t → Stands (decided (Took x ∷ h) t) d (accepted (Took x ∷ h) t) (kept_in new t)
    others_stand t apart d is same =
        stands_by (decided h t) (decided (Took x ∷ h) t) d (accepted h t) (accepted (Took x ∷ h) t) (kept_in old t)
        (kept_in new t) (other_decided t apart) (other_accepted t apart) same (f.pending t d is)

    -- ---- requests that name no transaction

    pub reads : start_in x.body ≡ None → checking x.body (effect_in h x) ≡ []
        → AddsSteps (reading x.body x.answer) old new
        → HasSteps (Took x ∷ h) new
    reads none unchecked w =
        record {
          shadows = w.steps
              ∙ (ap (λ s. reading x.body x.answer ++ s) f.shadows
              ∙ sym (ap (λ o. deciding_in h x o
              ++ (checking x.body (effect_in h x) ++ (reading x.body x.answer ++ shadow h))) none
              ∙ ap (λ s. s ++ (reading x.body x.answer ++ shadow h)) unchecked));
          pending = λ t d is. others_stand t (λ e. cc (none, e)) d is (w.same t);
        }

    -- ---- what is kept of a transaction, by how it stands

    module _ (t : ℕ) (d : Declaration) (is : declared h t ≡ Some d) where
      pub gone_before : (end : Fate) → decided h t ≡ Done end → kept_in old t ≡ None
      gone_before end e = subst (λ s. Stands s d (accepted h t) (kept_in old t)) e (f.pending t d is)

      pub kept_before : decided h t ≡ Open → (p : Pending) × (kept_in old t ≡ Some p) × Awaits d (accepted h t) p
      kept_before e = open_kept d (accepted h t) (kept_in old t)
          (subst (λ s. Stands s d (accepted h t) (kept_in old t)) e (f.pending t d is))

    -- ---- requests that name one, and the reads of their checks

    module _ (t : ℕ) (named : start_in x.body ≡ Some t) (unread : reading x.body x.answer
        ≡ []) (seen : List Step) (checks : checking x.body (effect_in h x) ≡ seen) where
      shadow_is : shadow (Took x ∷ h) ≡ deciding t (decided h t) (decided (Took x ∷ h) t) ++ (seen ++ shadow h)
      shadow_is =
          ap (λ o. deciding_in h x o
          ++ (checking x.body (effect_in h x) ++ (reading x.body x.answer ++ shadow h))) named
          ∙ (ap (λ r. deciding_in h x (Some t) ++ (checking x.body (effect_in h x) ++ (r ++ shadow h))) unread
          ∙ ap (λ s. deciding_in h x (Some t) ++ (s ++ shadow h)) checks)

      apart : (q : ℕ) → q ≢ t → start_in x.body ≢ Some q
      apart q other e = other (some_same q t (sym e ∙ named))

      pub goes : (more : List Step) → steps_of new ≡ more ++ (seen ++ steps_of old)
          → deciding t (decided h t) (decided (Took x ∷ h) t) ≡ more
          → ((q : ℕ) → q ≢ t → kept_in new q ≡ kept_in old q)
          → ((d : Declaration) → declared h t ≡ Some d
          → Stands (decided (Took x ∷ h) t) d (accepted (Took x ∷ h) t) (kept_in new t))
          → HasSteps (Took x ∷ h) new
      goes more steps decides others own =
          record {
            shadows = steps ∙ (ap (λ s. more ++ (seen ++ s)) f.shadows
                ∙ sym (shadow_is ∙ ap (λ s. s ++ (seen ++ shadow h)) decides));
            pending = λ q d is. elim (nat_test q t) [
              | inl y ↦ subst (λ n. declared h n ≡ Some d
                  → Stands (decided (Took x ∷ h) n) d (accepted (Took x ∷ h) n) (kept_in new n)) (sym y.1) (own d) is
              | inr y ↦ others_stand q (apart q y.1) d is (others q y.1)
            ];
          }

      -- one that is decided stays so
      pub done : (end : Fate) → decided h t ≡ Done end → kept_in old t ≡ None → steps_of new ≡ seen ++ steps_of old
          → ((q : ℕ) → kept_in new q ≡ kept_in old q) → HasSteps (Took x ∷ h) new
      done end is gone steps same =
          goes [] steps (ap (λ s. deciding t s (decided (Took x ∷ h) t)) is) (λ q other. same q)
          (λ d e. subst (λ s. Stands s d (accepted (Took x ∷ h) t) (kept_in new t)) (sym (decided_stays t end is))
          (same t ∙ gone))

      -- one that is decided now
      pub decides : (end : Fate) → decided h t ≡ Open → decided (Took x ∷ h) t ≡ Done end
          → steps_of new ≡ ended t end ∷ (seen ++ steps_of old)
          → ((q : ℕ) → q ≢ t → kept_in new q ≡ kept_in old q) → kept_in new t ≡ None → HasSteps (Took x ∷ h) new
      decides end before now steps others gone =
          goes (ended t end ∷ []) steps (ap (λ s. deciding t s (decided (Took x ∷ h) t)) before
          ∙ (ap (deciding t Open) now ∙ decision_step t end)) others
          (λ d e. subst (λ s. Stands s d (accepted (Took x ∷ h) t) (kept_in new t)) (sym now) gone)

      -- one that is open, of which nothing is said
      quiet : decided h t ≡ Open → effect_in h x ≡ NoEffect → steps_of new ≡ seen ++ steps_of old
          → ((q : ℕ) → kept_in new q ≡ kept_in old q) → HasSteps (Took x ∷ h) new
      quiet before none steps same =
          goes [] steps (ap (λ s. deciding t s (decided (Took x ∷ h) t)) before
          ∙ ap (deciding t Open) (quiet_decided none t ∙ before)) (λ q other. same q)
          (λ d e. stands_by (decided h t) (decided (Took x ∷ h) t) d (accepted h t) (accepted (Took x ∷ h) t)
          (kept_in old t) (kept_in new t) (quiet_decided none t) (quiet_accepted none t) (same t) (f.pending t d e))

    module _ (t : ℕ) (named : start_in x.body ≡ Some t) (unread : reading x.body x.answer
        ≡ []) (unchecked : checking x.body (effect_in h x) ≡ []) (d : Declaration) (is : declared h t ≡ Some d) where
      ends_done : (end : Fate) → decided h t ≡ Done end → (told : Fate) → DecidesKept t told old new
          → HasSteps (Took x ∷ h) new
      ends_done end e told ends =
          elim ends [
            | inl y ↦ done t named unread [] unchecked end e (gone_before t d is end e) y.1.steps y.1.same
            | inr y ↦ (let none = gone_before t d is end e in absurd (cc (none, y.before)))
          ]

      ends_open : decided h t ≡ Open → (end : Fate) → fate_in x.answer ≡ Some end → DecidesKept t end old new
          → HasSteps (Took x ∷ h) new
      ends_open e end tells ends =
          elim ends [
            | inl y ↦ (let some = (kept_before t d is e).1 in absurd (cc (y.0, some)))
            | inr y ↦ decides t named unread [] unchecked end e (told t end named tells) y.steps
                (λ q other. y.gone q ∙ elim (nat_test t q) [
                  | inl z ↦ absurd (other (sym z.1))
                  | inr z ↦ cond_false (t == q) None (kept_in old q) z.0
                ])
                (y.gone t ∙ cond_true (t == t) None (kept_in old t) (nat_same t))
          ]

      -- the answer tells its fate, or nothing
      pub tells : (fate_in x.answer ≡ None → decided h t ≡ Open → effect_in h x ≡ NoEffect)
          → TellsFate t (fate_in x.answer) old new → HasSteps (Took x ∷ h) new
      tells nothing does = go (decided h t) refl (fate_in x.answer) refl does
        where
          go : (s : State) → decided h t ≡ s → (o : Option Fate) → fate_in x.answer ≡ o → TellsFate t o old new
              → HasSteps (Took x ∷ h) new
          go (Done end) e None g w = done t named unread [] unchecked end e (gone_before t d is end e) w.steps w.same
          go (Done end) e (Some told) g w = ends_done end e told w
          go Open e None g w = quiet t named unread [] unchecked e (nothing g e) w.steps w.same
          go Open e (Some told) g w = ends_open e told g w
