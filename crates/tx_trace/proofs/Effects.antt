-- What an answer does is done to the transaction that its request names.
use Rattle.std.proofs.Common.{◌≡◌, ◌≢◌, inl, inr, ℕ, ◌==◌, ◌&&◌, Bool, true, false, cond, List, Option, Some, None, bytes_eq, refl, ap, ◌∙◌}
use Rattle.tx_types.specs.declared.key.Key.{Key}
use Rattle.tx_types.specs.declared.mutation.Change.{Change}
use Rattle.tx_types.specs.declared.mutation.Fate.{Fate}
use Rattle.tx_types.specs.declared.mutation.Fate.TheVariants as fate
use Rattle.tx_plan.specs.declared.body.Body.{Body}
use Rattle.tx_plan.specs.declared.body.Body.TheVariants.{Prewrite, Commit, BatchRollback, CheckTxnStatus, CheckSecondaryLocks, ResolveLock}
use Rattle.tx_plan.specs.declared.body.Prewrite.{Prewrite as PrewriteBody}
use Rattle.tx_plan.specs.declared.answer.Answer.{Answer}
use Rattle.tx_plan.specs.declared.answer.Answer.TheVariants.{Prewritten, Committed, RolledBack, Missing, Resolved}
use Rattle.tx_plan.specs.Cells.{Cells}
use Rattle.tx_plan.specs.cases.Prewrite.{lock_of}
use Rattle.tx_plan.specs.Answers.{start_in}
use Rattle.tx_machine.specs.Machine.{Open}
use Rattle.tx_core.specs.Decisions.{Effect, Puts, Settles, RollsBack, NoEffect, effect, Acceptance, first_accepted, accepted_by, decision}
use Rattle.tx_plan.specs.Own.{is_own}
use Rattle.tx_core.proofs.Basics.{nat_test}

-- the effect is on this transaction
abbrev pub On : Option ℕ → Effect → Type 0
On named (Puts key lock) = named ≡ Some lock.start
On named (Settles key t c) = named ≡ Some t
On named (RollsBack t) = named ≡ Some t
On named NoEffect = Unit {0}

either_on : (own : Bool) (t : ℕ) (e : Effect) → On (Some t) e → On (Some t) (cond own NoEffect e)
either_on true t e on = tt
either_on false t e on = on

other_on : (own : Bool) (t : ℕ) (e : Effect) → On (Some t) e → On (Some t) (cond own e NoEffect)
other_on true t e on = on
other_on false t e on = tt

pub effect_on : (cells : Key → Cells) (body : Body) (a : Answer) → On (start_in body) (effect cells body a)
effect_on cells (Prewrite b) (Prewritten m) =
    either_on (is_own (cells b.key).lock b.start) b.start (Puts b.key (lock_of b m)) refl
effect_on cells (Commit b) (Committed c) =
    other_on (is_own (cells b.key).lock b.start) b.start (Settles b.key b.start b.commit) refl
effect_on cells (BatchRollback b) RolledBack = refl
effect_on cells (CheckTxnStatus b) RolledBack = refl
effect_on cells (CheckSecondaryLocks b) Missing = refl
effect_on cells _ _ = tt

-- ---- of another transaction it accepts and decides nothing

module _ (named : Option ℕ) (t : ℕ) (apart : named ≢ Some t) where
  pub accepted_apart : (e : Effect) (n : ℕ) (k : Key) (before : Option Acceptance) → On named e
      → accepted_by e n t k before ≡ before
  accepted_apart (Puts key lock) n k before on =
      elim (nat_test lock.start t) [ inl x ↦ absurd (apart (on ∙ ap Some x.1)) | inr x ↦ rw x.0 refl ]
  accepted_apart (Settles key u c) n k before on = refl
  accepted_apart (RollsBack u) n k before on = refl
  accepted_apart NoEffect n k before on = refl

  pub decision_apart : (set : List Change) (accepted : Key → Option Acceptance) (e : Effect) → On named e
      → decision set accepted e t ≡ Open
  decision_apart set accepted (Puts key lock) on =
      elim (nat_test lock.start t) [ inl x ↦ absurd (apart (on ∙ ap Some x.1)) | inr x ↦ rw x.0 refl ]
  decision_apart set accepted (Settles key u c) on =
      elim (nat_test u t) [ inl x ↦ absurd (apart (on ∙ ap Some x.1)) | inr x ↦ rw x.0 refl ]
  decision_apart set accepted (RollsBack u) on =
      elim (nat_test u t) [ inl x ↦ absurd (apart (on ∙ ap Some x.1)) | inr x ↦ rw x.0 refl ]
  decision_apart set accepted NoEffect on = refl

-- ---- what was accepted stays so, and only a prewrite that is accepted adds to it

pub stays_by : (e : Effect) (n t : ℕ) (k : Key) (before : Option Acceptance) → before ≢ None
    → accepted_by e n t k before ≢ None
stays_by (Puts key lock) n t k before some = go ((lock.start == t) && bytes_eq key k) before some
  where
    go : (here : Bool) (o : Option Acceptance) → o ≢ None
        → cond here (first_accepted o record { lock = lock; at = n }) o ≢ None
    go true None some = absurd (some refl)
    go true (Some x) some = λ e. cc (e)
    go false o some = some
stays_by (Settles key u c) n t k before some = some
stays_by (RollsBack u) n t k before some = some
stays_by NoEffect n t k before some = some

either_same : (own : Bool) (key : Key) (u c n t : ℕ) (k : Key) (before : Option Acceptance)
    → accepted_by (cond own (Settles key u c) NoEffect) n t k before ≡ before
either_same true key u c n t k before = refl
either_same false key u c n t k before = refl

module _ (n t : ℕ) (k : Key) (before : Option Acceptance) where
  pub none_put : (cells : Key → Cells) (body : Body) (a : Answer)
      → ((b : PrewriteBody) (m : ℕ) → body ≡ Prewrite b → a ≡ Prewritten m → ⊥)
      → accepted_by (effect cells body a) n t k before ≡ before
  none_put cells (Prewrite b) (Prewritten m) other = absurd (other b m refl refl)
  none_put cells (Commit b) (Committed c) other =
      either_same (is_own (cells b.key).lock b.start) b.key b.start b.commit n t k before
  none_put cells (BatchRollback b) RolledBack other = refl
  none_put cells (CheckTxnStatus b) RolledBack other = refl
  none_put cells (CheckSecondaryLocks b) Missing other = refl
  none_put cells _ _ other = refl
