-- What every world run says of its decisions, acceptances and outcomes.
use Rattle.std.proofs.Common.{◌≡◌, ◌≢◌, ◌≤◌, ℕ, inl, inr, true, false, cond, List, [], ◌∷◌, Option, Some, None, refl, sym, subst}
use Rattle.tx_types.specs.declared.key.Key.{Key}
use Rattle.tx_types.specs.declared.mutation.Fate.{Fate}
use Rattle.tx_types.specs.declared.mutation.Mode.TheVariants.{TwoPhase}
use Rattle.tx_machine.specs.Machine.{Done}
use Rattle.tx_plan.specs.declared.body.Prewrite.{Prewrite}
use Rattle.tx_plan.specs.declared.body.Body.TheVariants as body
use Rattle.tx_plan.specs.declared.answer.Answer.TheVariants.{Prewritten}
use Rattle.tx_plan.specs.Cells.{Lock}
use Rattle.tx_plan.specs.cases.Prewrite.{lock_of}
use Rattle.tx_core.specs.declared.event.Declaration.{Declaration}
use Rattle.tx_core.specs.declared.event.Taken.{Taken}
use Rattle.tx_core.specs.declared.event.Event.TheVariants.{Drawn, Began, Declared, Answered, Stopped, Took}
use Rattle.tx_core.specs.Histories.{History, last, began, declared, answered, left}
use Rattle.tx_core.specs.Decisions.{Effect, Puts, NoEffect, effect, effect_in, Acceptance, first_accepted, accepted_by, accepted, decided}
use Rattle.tx_plan.specs.Own.{is_own}
use Rattle.tx_core.specs.Worlds.{route, WasTold, IsWorldRun}
use Rattle.tx_core.proofs.Basics.{nat_test, nat_same, key_same, none_is, is_some}
use Rattle.tx_core.proofs.view.View.{Inv}
use Rattle.tx_core.proofs.view.HistoryView.{view}
use Rattle.tx_core.proofs.runs.AllRuns.{run_told}

-- the facts of the view of a world run
pub inv_of : (bounds : List Key) (h : History) → IsWorldRun bounds h → Inv (view bounds h)
inv_of bounds h run = (run_told bounds h run).0.sound.inv

-- ---- decisions

-- what was told is decided
pub told_fate : (bounds : List Key) (h : History) → IsWorldRun bounds h → (t : ℕ) (end : Fate) → WasTold h t end
    → decided h t ≡ Done end
told_fate bounds h run t end told = (run_told bounds h run).0.told told.by told.among t told.of end told.tells

-- who is decided declared
pub decided_declared : (bounds : List Key) (h : History) → IsWorldRun bounds h → (t : ℕ) (end : Fate)
    → decided h t ≡ Done end → declared h t ≢ None
decided_declared bounds h run t end is = (inv_of bounds h run).clock.decides t (λ o. cc (o, is))

-- ---- who did not begin

pub undeclared : (bounds : List Key) (h : History) → IsWorldRun bounds h → (t : ℕ) → began h t ≡ false
    → declared h t ≡ None
undeclared bounds h run t not_yet =
    none_is (declared h t) (λ d is. cc ((inv_of bounds h run).clock.declares t (is_some (declared h t) d is), not_yet))

pub unanswered : (bounds : List Key) (h : History) → IsWorldRun bounds h → (t : ℕ) → began h t ≡ false
    → answered h t ≡ false
unanswered bounds [] run t not_yet = refl
unanswered bounds (Answered u o ∷ h) run t not_yet =
    elim (nat_test u t) [
      | inl x ↦ (let begun : began h t ≡ true = subst (λ n. began h n ≡ true) x.1 run.1.0 in
          absurd (cc (begun, not_yet)))
      | inr x ↦ rw x.0 (unanswered bounds h run.0 t not_yet)
    ]
unanswered bounds (Began u ∷ h) run t not_yet =
    elim (nat_test u t) [
      | inl x ↦ (let now : true ≡ false = rw x.0 at not_yet in absurd (cc (now)))
      | inr x ↦ (let before : began h t ≡ false = rw x.0 at not_yet in unanswered bounds h run.0 t before)
    ]
unanswered bounds (Drawn s n ∷ h) run t not_yet = unanswered bounds h run.0 t not_yet
unanswered bounds (Declared d ∷ h) run t not_yet = unanswered bounds h run.0 t not_yet
unanswered bounds (Stopped s ∷ h) run t not_yet = unanswered bounds h run.0 t not_yet
unanswered bounds (Took x ∷ h) run t not_yet = unanswered bounds h run.0 t not_yet

-- ---- acceptances

-- a key was accepted at most at the last number
pub accepted_upto : (bounds : List Key) (h : History) → IsWorldRun bounds h → (t : ℕ) (k : Key) (by : Acceptance)
    → accepted h t k ≡ Some by → by.at ≤ last h
accepted_upto bounds h run t k by e = ((inv_of bounds h run).acceptances t k by e).at

-- the locks of a transaction that was declared two-phase are two-phase
pub accepted_two_phase : (bounds : List Key) (h : History) → IsWorldRun bounds h → (t : ℕ) (k : Key) (by : Acceptance)
    → accepted h t k ≡ Some by → (d : Declaration) → declared h t ≡ Some d → d.mode ≡ TwoPhase → by.lock.mode ≡ TwoPhase
accepted_two_phase bounds h run t k by e = ((inv_of bounds h run).acceptances t k by e).mode

-- a lock that is put is an acceptance, where none stood before
pub put_accepted : (key : Key) (lock : Lock) (n : ℕ) (before : Option Acceptance)
    → accepted_by (Puts key lock) n lock.start key before ≢ None
put_accepted key lock n before = rw (nat_same lock.start, key_same key) (some before)
  where
    some : (o : Option Acceptance) → first_accepted o record { lock = lock; at = n } ≢ None
    some None none = cc (none)
    some (Some by) none = cc (none)

-- the effect of a prewrite that is accepted, by the lock that stands
abbrev effect_by : Prewrite → ℕ → Option Lock → Effect
effect_by b m o = cond (is_own o b.start) NoEffect (Puts b.key (lock_of b m))

-- a prewrite that was answered so has put its lock, or found it there
pub prewritten_accepted : (bounds : List Key) (h : History) → IsWorldRun bounds h → (x : Taken) (b : Prewrite) (m : ℕ)
    → x.region ≡ route bounds b.key → x.body ≡ body.Prewrite b → x.answer ≡ Prewritten m
    → accepted (Took x ∷ h) b.start b.key ≢ None
prewritten_accepted bounds h run x b m in_region is answer =
    subst (λ e. accepted_by e (last h) b.start b.key (accepted h b.start b.key) ≢ None) (sym does)
    (go ((left h (route bounds b.key)).cells b.key).lock refl)
  where
    does : effect_in h x ≡ effect_by b m ((left h (route bounds b.key)).cells b.key).lock
    does = λ i. effect (left h (in_region i)).cells (is i) (answer i)

    put : accepted_by (Puts b.key (lock_of b m)) (last h) b.start b.key (accepted h b.start b.key) ≢ None
    put = put_accepted b.key (lock_of b m) (last h) (accepted h b.start b.key)

    go : (o : Option Lock) → ((left h (route bounds b.key)).cells b.key).lock ≡ o
        → accepted_by (effect_by b m o) (last h) b.start b.key (accepted h b.start b.key) ≢ None
    go None e = put
    go (Some lock) e =
        elim (nat_test lock.start b.start) [
          | inl y ↦ rw y.0 (subst (λ t. accepted h t b.key ≢ None) y.1
              (((inv_of bounds h run).keys b.key).lock lock e).accepts)
          | inr y ↦ rw y.0 put
        ]
