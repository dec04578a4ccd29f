-- A region's answer leaves a rollback: of a transaction that was aborted before, or that it aborts.
use Rattle.std.proofs.Common.{◌≡◌, ◌≢◌, ℕ, ◌==◌, inl, inr, cond, List, ◌∷◌, ◌++◌, None, refl, ap, subst, ◌∙◌}
use Rattle.tx_types.specs.declared.key.Key.{Key}
use Rattle.tx_types.specs.declared.mutation.Fate.TheVariants.{Committed, Aborted}
use Rattle.tx_plan.specs.declared.body.Body.{Body}
use Rattle.tx_plan.specs.declared.answer.Answer.{Answer}
use Rattle.tx_plan.specs.Cells.{Cells}
use Rattle.tx_machine.specs.Machine.{State, Open, Done, Table, table_of}
use Rattle.tx_machine.specs.declared.step.Step.{Step}
use Rattle.tx_machine.specs.declared.step.Step.TheVariants as step
use Rattle.tx_core.specs.Histories.{History, declared}
use Rattle.tx_core.specs.Decisions.{RollsBack, effect_in, accepted, first_decided, decided}
use Rattle.tx_core.specs.Worlds.{route}
use Rattle.tx_core.specs.Shadow.{deciding, shadow}
use Rattle.tx_core.specs.Truth.{HasEnded, IsTrueAnswer}
use Rattle.tx_core.proofs.Basics.{nat_test, nat_same, cond_true}
use Rattle.tx_core.proofs.view.View.{View, IsCommitted, IsAborted}
use Rattle.tx_core.proofs.view.Ends.{Ends}
use Rattle.tx_core.proofs.view.Tables.{Sound, has_ended}
use Rattle.tx_core.proofs.view.HistoryView.{view, shown_told, shown_in}
use Rattle.tx_core.proofs.changes.Keyed.{keyed}
use Rattle.tx_core.proofs.changes.Aborts.{aborting}
use Rattle.tx_core.proofs.changes.Sounds.{sound_abort}
use Rattle.tx_core.proofs.requests.Good.{Good, Next, OnKey, took, cells_at, assemble, decided_same, true_end}

-- The answer does `roll` to the cells of k and has no other effect than the rollback of t; what is
-- sound and the ends stay where t is aborted, and the answer is true where t has ended so.
pub record LeavesRollback (bounds : List Key) (h : History) (k : Key) (body : Body) (l : ℕ) (a : Answer) (t : ℕ) (roll :
    Cells → Cells) : Type 0 where
  pub does : Cells → Cells
  pub on : OnKey k body a t does
  pub same : does (cells_at bounds h k) ≡ roll (cells_at bounds h k)
  pub leaves : effect_in h (took (route bounds k) body l a) ≡ RollsBack t
  pub untold : (u n : ℕ) → shown_told body a u n ≡ n
  pub sound : (steps : List Step) (w : View) → Sound steps w → IsAborted w.decided t
      → Sound steps (keyed w k (roll (w.cells k)))
  pub ends : Ends (view bounds h) → Ends (keyed (view bounds h) k (roll (cells_at bounds h k)))
  pub tells : (table : Table) → HasEnded table t Aborted → IsTrueAnswer table body a

module _ (bounds : List Key) (h : History) (good : Good bounds h) (k : Key) (body : Body) (l : ℕ) (a : Answer) (t :
    ℕ) (roll : Cells → Cells) (r : LeavesRollback bounds h k body l a t roll) where
  -- of a transaction that was aborted before
  pub follows : IsAborted (decided h) t → Next bounds h (took (route bounds k) body l a)
  follows gone =
      assemble bounds h k body l a t r.does r.on (RollsBack t) r.leaves (decided h) (accepted h) (shown_in h)
      (roll (cells_at bounds h k)) (shadow h) same_fate
      (λ u q. refl)
      (λ u. r.untold u (shown_in h u))
      r.same
      (ap (λ s. s ++ shadow h) (decided_same t (decided h t)))
      (r.sound (shadow h) (view bounds h) good.sound gone)
      (r.ends good.ends)
      (r.tells (table_of (shadow h)) (true_end bounds h good t Aborted gone))
    where
      same_fate : (u : ℕ) → first_decided (cond (t == u) (Done Aborted) Open) (decided h u) ≡ decided h u
      same_fate u =
          elim (nat_test t u) [
            | inl e ↦ rw (e.0, subst (λ n. decided h n ≡ Done Aborted) e.1 gone) refl
            | inr e ↦ rw e.0 refl
          ]

  -- of a transaction that this aborts
  aborts : decided h t ≡ Open → declared h t ≢ None
      → Ends (keyed (aborting (view bounds h) t) k (roll (cells_at bounds h k)))
      → Next bounds h (took (route bounds k) body l a)
  aborts o some ends =
      let w = aborting (view bounds h) t in
      let sound = r.sound (step.Abort t
      ∷ shadow h) w (sound_abort (shadow h) (view bounds h) t good.sound o some) now in
      assemble bounds h k body l a t r.does r.on (RollsBack t) r.leaves w.decided (accepted h) (shown_in h)
      (roll (cells_at bounds h k)) (step.Abort t ∷ shadow h) new_fate
      (λ u q. refl)
      (λ u. r.untold u (shown_in h u))
      r.same
      (ap (λ s. s ++ shadow h) (ap (λ s. deciding t s (w.decided t)) o ∙ ap (deciding t Open) now))
      sound
      ends
      (r.tells (table_of (step.Abort t ∷ shadow h))
      (has_ended (table_of (step.Abort t ∷ shadow h)) (keyed w k (roll (w.cells k))) t Aborted sound.inv sound.shows
      now))
    where
      now : cond (t == t) (Done Aborted) (decided h t) ≡ Done Aborted
      now = cond_true (t == t) (Done Aborted) (decided h t) (nat_same t)

      new_fate : (u : ℕ) → first_decided (cond (t == u) (Done Aborted) Open) (decided h u)
          ≡ cond (t == u) (Done Aborted) (decided h u)
      new_fate u =
          elim (nat_test t u) [
            | inl e ↦ rw (e.0, subst (λ n. decided h n ≡ Open) e.1 o) refl
            | inr e ↦ rw e.0 refl
          ]

  -- of one that is not committed
  pub rolled : declared h t ≢ None → ((c : ℕ) → IsCommitted (decided h) t c → ⊥)
      → (decided h t ≡ Open → Ends (keyed (aborting (view bounds h) t) k (roll (cells_at bounds h k))))
      → Next bounds h (took (route bounds k) body l a)
  rolled some live ends = by_state (decided h t) refl
    where
      by_state : (s : State) → decided h t ≡ s → Next bounds h (took (route bounds k) body l a)
      by_state Open o = aborts o some (ends o)
      by_state (Done (Committed c)) e = absurd (live c e)
      by_state (Done Aborted) e = follows e
