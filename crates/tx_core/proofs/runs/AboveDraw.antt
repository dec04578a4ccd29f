-- In a world run the bound of each accepted lock lies above the number that was drawn for its
-- transaction's declaration.
use Rattle.std.proofs.Common.{◌≡◌, ◌⊎◌, ℕ, ◌+◌, ◌<◌, ◌≤◌, ◌==◌, ◌&&◌, inl, inr, true, false, max, List, [], ◌∷◌, Option, Some, None, bytes_eq, refl, sym, ap, subst, ◌∙◌, arith}
use Rattle.std.proofs.lemmas.Bool.{and_parts, eqb-true, eq-eqb, ne_eqb}
use Rattle.std.proofs.Math.Nat.{le-max_right}
use Rattle.tx_types.specs.declared.key.Key.{Key}
use Rattle.tx_types.specs.declared.mutation.Mode.{Mode}
use Rattle.tx_types.specs.declared.mutation.Mode.TheVariants.{TwoPhase, Async}
use Rattle.tx_plan.specs.declared.body.Body.{Body}
use Rattle.tx_plan.specs.declared.body.Body.TheVariants.{Prewrite, Commit, BatchRollback, CheckTxnStatus, CheckSecondaryLocks}
use Rattle.tx_plan.specs.declared.body.Prewrite.{Prewrite as PrewriteBody}
use Rattle.tx_plan.specs.declared.answer.Answer.{Answer}
use Rattle.tx_plan.specs.declared.answer.Answer.TheVariants.{Prewritten, Committed, RolledBack, Missing}
use Rattle.tx_plan.specs.Cells.{Lock, Cells}
use Rattle.tx_plan.specs.Own.{is_own}
use Rattle.tx_plan.specs.Answers.{Answers}
use Rattle.tx_plan.specs.cases.Prewrite.{AnswersPrewrite, MayPromise, least_minimum, lock_of}
use Rattle.tx_core.specs.declared.event.Declaration.{Declaration}
use Rattle.tx_core.specs.declared.event.Taken.{Taken}
use Rattle.tx_core.specs.declared.event.Event.TheVariants.{Drawn, Began, Declared, Answered, Stopped, Took}
use Rattle.tx_core.specs.Histories.{History, last, declared, left}
use Rattle.tx_core.specs.Decisions.{Acceptance, Effect, Puts, Settles, RollsBack, NoEffect, effect, effect_in, first_accepted, accepted_by, accepted}
use Rattle.tx_core.specs.Allowed.{Allowed, AllowsPrewrite}
use Rattle.tx_core.specs.Worlds.{MayTake, IsWorldRun}
use Rattle.tx_core.proofs.Basics.{chosen, cond_false, some_same}
use Rattle.tx_core.proofs.view.View.{bound, bound_async, does_declared}
use Rattle.tx_core.proofs.runs.Consequences.{inv_of}
use Rattle.tx_core.proofs.seats.Stays.{declared_drew}

-- an acceptance stood before, or is of the lock that is put
data Accepts (e : Effect) (n t : ℕ) (before : Option Acceptance) (by : Acceptance) : Type 0 where
  was : (is : before ≡ Some by) → Accepts e n t before by
  put : (key : Key) (lock : Lock) (is : e ≡ Puts key lock) (own : lock.start ≡ t)
      (new : record { lock = lock; at = n } ≡ by) → Accepts e n t before by

accepts : (e : Effect) (n t : ℕ) (k : Key) (before : Option Acceptance) (by : Acceptance)
    → accepted_by e n t k before ≡ Some by → Accepts e n t before by
accepts (Puts key lock) n t k before by e =
    elim (chosen ((lock.start == t) && bytes_eq key k) (first_accepted before record { lock = lock; at = n }) before
    (Some by) e) [
      | inl x ↦ first before x.1 (eqb-true lock.start t (and_parts (lock.start == t) (bytes_eq key k) x.0).0)
      | inr x ↦ was x.1
    ]
  where
    first : (o : Option Acceptance) → first_accepted o record { lock = lock; at = n } ≡ Some by → lock.start ≡ t
        → Accepts (Puts key lock) n t o by
    first None is own = put key lock refl own (some_same record { lock = lock; at = n } by is)
    first (Some old) is own = was is
accepts (Settles key u c) n t k before by e = was e
accepts (RollsBack u) n t k before by e = was e
accepts NoEffect n t k before by e = was e

-- what puts a lock is a prewrite that found none of its own
abbrev IsPut : (Key → Cells) → Body → Answer → Lock → Type 0
IsPut cells x a lock = (b : PrewriteBody) × (m : ℕ) × (x ≡ Prewrite b) × (a ≡ Prewritten m)
    × (is_own (cells b.key).lock b.start ≡ false) × (lock ≡ lock_of b m)

is_put : (cells : Key → Cells) (x : Body) (a : Answer) (key : Key) (lock : Lock)
    → effect cells x a ≡ Puts key lock → IsPut cells x a lock
is_put cells (Prewrite b) (Prewritten m) key lock e =
    elim (chosen (is_own (cells b.key).lock b.start) NoEffect (Puts b.key (lock_of b m)) (Puts key lock) e) [
      | inl x ↦ absurd (cc (x.1))
      | inr x ↦ (b, m, refl, refl, x.0, cc (x.1))
    ]
is_put cells (Commit b) (Committed c) key lock e =
    elim (chosen (is_own (cells b.key).lock b.start) (Settles b.key b.start b.commit) NoEffect (Puts key lock) e) [
      | inl x ↦ absurd (cc (x.1))
      | inr x ↦ absurd (cc (x.1))
    ]
is_put cells (BatchRollback b) RolledBack key lock e = absurd (cc (e))
is_put cells (CheckTxnStatus b) RolledBack key lock e = absurd (cc (e))
is_put cells (CheckSecondaryLocks b) Missing key lock e = absurd (cc (e))
is_put cells x a key lock e = absurd (cc (e))

-- its minimum was promised, or it is two-phase
promised : (cells : Cells) (safe loaded : ℕ) (P : ℕ → Type 0) (b : PrewriteBody) (m : ℕ)
    → is_own cells.lock b.start ≡ false → AnswersPrewrite cells safe loaded P b (Prewritten m)
    → (m ≡ 0) ⊎ ((b.mode ≡ Async) × P m)
promised cells safe loaded P b m free (inl x) = absurd (cc (x.1))
promised cells safe loaded P b m free (inr (no0, inl x)) = absurd (cc (x.1))
promised cells safe loaded P b m free (inr (no0, inr (no1, inl (lock, own, e)))) =
    absurd (let is : is_own cells.lock b.start ≡ true =
    ap (λ o. is_own o b.start) own.stands ∙ eq-eqb lock.start b.start own.own in cc (is, free))
promised cells safe loaded P b m free (inr (no0, inr (no1, inr (no2, inl x)))) = absurd (cc (x.1))
promised cells safe loaded P b m free (inr (no0, inr (no1, inr (no2, inr (no3, inl (c, own, e)))))) = absurd (cc (e))
promised cells safe loaded P b m free (inr (no0, inr (no1, inr (no2, inr (no3, inr (no4, inl (lock, at, e))))))) =
    absurd (cc (e))
promised cells safe loaded P b m free (inr (
  no0,
  inr (no1, inr (no2, inr (no3, inr (no4, inr (no5, inl (some, (start, c, newest, e))))))),
)) =
    absurd (cc (e))
promised cells safe loaded P b m free (inr (
  no0,
  inr (no1, inr (no2, inr (no3, inr (no4, inr (no5, inr (no6, inl x)))))),
)) =
    absurd (cc (x.1))
promised cells safe loaded P b m free (inr (
  no0,
  inr (no1, inr (no2, inr (no3, inr (no4, inr (no5, inr (no6, inr (no7, inl (mode, (n, promise, inl x))))))))),
)) =
    (let same : n ≡ m = cc (x.1) in inr (mode, subst P same promise))
promised cells safe loaded P b m free (inr (
  no0,
  inr (no1, inr (no2, inr (no3, inr (no4, inr (no5, inr (no6, inr (no7, inl (mode, (n, promise, inr x))))))))),
)) =
    inl (cc (x.1))
promised cells safe loaded P b m free (inr (
  no0,
  inr (no1, inr (no2, inr (no3, inr (no4, inr (no5, inr (no6, inr (no7, inr x))))))),
)) =
    inl (cc (x.1))

-- the floor of an async prewrite lies above the number that was drawn
floor_above : (h : History) (b : PrewriteBody) (may : AllowsPrewrite h b) → b.mode ≡ Async → may.of.drawn < b.floor
floor_above h b may async =
    let above : b.floor ≡ may.of.drawn + 1 = may.floor
    ∙ ap (λ (m : Mode). elim m as (λ _. ℕ) [ TwoPhase ↦ 0 | Async ↦ may.of.drawn + 1 ]) (sym may.mode ∙ async) in
    omega (arith, above)

module _ (bounds : List Key) (h : History) (run : IsWorldRun bounds h) (x : Taken) (may : MayTake bounds h x) where
  -- a lock that is put lies above the number that was drawn for the declaration
  put_above : (t : ℕ) (d : Declaration) → declared h t ≡ Some d → (lock : Lock) → lock.start ≡ t
      → IsPut (left h x.region).cells x.body x.answer lock → d.drawn < bound record { lock = lock; at = last h }
  put_above t d stands lock own (b, m, is, answer, free, new) =
      subst (λ (y : Lock). d.drawn < bound record { lock = y; at = last h }) (sym new)
      (elim (promised ((left h x.region).cells b.key) (left h x.region).safe x.loaded
      (MayPromise (left h x.region).max_read (last h) b) b m free answers) [
        | inl zero ↦ subst (λ n. d.drawn < bound record { lock = lock_of b n; at = last h }) (sym zero)
            (let after : d.drawn < last h + 1 = omega (arith, declared_drew bounds h run t d stands) in after)
        | inr (mode, promise) ↦ (
            let given : (m == 0) ≡ false = ne_eqb m 0 (λ e. omega (arith, promise.0, e)) in
            let min_is : (lock_of b m).min ≡ m = cond_false (m == 0) (b.start + 1) m given in
            let mode_is : (lock_of b m).mode ≡ Async = cond_false (m == 0) TwoPhase Async given in
            let floor : b.floor ≤ least_minimum (left h x.region).max_read b =
            le-max_right (max (left h x.region).max_read b.start + 1) b.floor in
            omega (
              arith,
              bound_async record { lock = lock_of b m; at = last h } mode_is,
              min_is,
              promise.0,
              floor,
              floor_above h b allows mode,
              ap (λ (y : Declaration). y.drawn) same,
            )
            )
      ])
    where
      allows : AllowsPrewrite h b
      allows = subst (Allowed h) is may.allowed

      answers : Answers (left h x.region) x.loaded (last h) (Prewrite b) (Prewritten m)
      answers = subst (λ a. Answers (left h x.region) x.loaded (last h) (Prewrite b) a) answer
          (subst (λ y. Answers (left h x.region) x.loaded (last h) y x.answer) is may.answers)

      start : b.start ≡ t
      start = ap (λ (y : Lock). y.start) (sym new) ∙ own

      same : allows.of ≡ d
      same = some_same allows.of d (sym allows.stands ∙ ap (declared h) start ∙ stands)

pub above_draw : (bounds : List Key) (h : History) → IsWorldRun bounds h → (t : ℕ) (k : Key) (by : Acceptance)
    → accepted h t k ≡ Some by → (d : Declaration) → declared h t ≡ Some d → d.drawn < bound by
above_draw bounds [] run t k by is d stands = absurd (cc (is))
above_draw bounds (Declared x ∷ h) run t k by is d stands =
    elim (chosen (x.start == t) (Some x) (declared h t) (Some d) stands) [
      | inl now ↦ absurd (does_declared (declared h) t k by.lock.mutation
          ((inv_of bounds h run.0).acceptances t k by is).does
          (subst (λ u. declared h u ≡ None) (eqb-true x.start t now.0) run.1.once))
      | inr before ↦ above_draw bounds h run.0 t k by is d before.1
    ]
above_draw bounds (Took x ∷ h) run t k by is d stands =
    elim (accepts (effect_in h x) (last h) t k (accepted h t k) by is) [
      | was before ↦ above_draw bounds h run.0 t k by before d stands
      | put key lock puts own new ↦ subst (λ (y : Acceptance). d.drawn < bound y) new
          (put_above bounds h run.0 x run.1 t d stands lock own
          (is_put (left h x.region).cells x.body x.answer key lock puts))
    ]
above_draw bounds (Drawn s n ∷ h) run t k by is d stands = above_draw bounds h run.0 t k by is d stands
above_draw bounds (Began u ∷ h) run t k by is d stands = above_draw bounds h run.0 t k by is d stands
above_draw bounds (Answered u o ∷ h) run t k by is d stands = above_draw bounds h run.0 t k by is d stands
above_draw bounds (Stopped s ∷ h) run t k by is d stands = above_draw bounds h run.0 t k by is d stands
