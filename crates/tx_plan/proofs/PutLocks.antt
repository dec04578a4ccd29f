-- The lock that a prewrite puts is the one that its answer tells.
use Rattle.std.proofs.Common.{◌≡◌, ℕ, ◌+◌, ◌==◌, inl, inr, false, refl, sym, ap, ◌∙◌, Some, None, arith}
use Rattle.std.proofs.lemmas.Bool.{cases_Bool, eqb-true}
use Rattle.tx_types.specs.declared.mutation.Mode.TheVariants.{TwoPhase, Async}
use Rattle.tx_plan.specs.declared.body.Prewrite.{Prewrite}
use Rattle.tx_plan.specs.Cells.{Cells, with_lock}
use Rattle.tx_plan.specs.Changes.{put}
use Rattle.tx_plan.specs.cases.Prewrite.{lock_of, locked}

-- on a free key
free_locked : (cells : Cells) (b : Prewrite) (m : ℕ) → cells.lock ≡ None → locked cells.lock b m ≡ lock_of b m
free_locked cells b m free = ap (λ standing. locked standing b m) free

async_lock : (b : Prewrite) (m : ℕ) → (m == 0) ≡ false → put b (record { mode = Async; min = m }) ≡ lock_of b m
async_lock b m e = (rw e refl)

pub puts_async : (cells : Cells) (b : Prewrite) (m n : ℕ) → cells.lock ≡ None → m ≡ n + 1
    → with_lock cells (Some (put b (record { mode = Async; min = m }))) ≡ with_lock cells (Some (locked cells.lock b m))
puts_async cells b m n free above =
    ap (λ lock. with_lock cells (Some lock)) (async_lock b m positive ∙ sym (free_locked cells b m free))
  where
    positive : (m == 0) ≡ false
    positive = elim (cases_Bool (m == 0)) [
      | inl e ↦
          absurd (let zero_is = eqb-true m 0 e in omega (arith, zero_is, above))
      | inr e ↦ e
    ]

pub puts_two_phase : (cells : Cells) (b : Prewrite) (m : ℕ) → cells.lock ≡ None → m ≡ b.start + 1
    → with_lock cells (Some (put b (record { mode = TwoPhase; min = m })))
    ≡ with_lock cells (Some (locked cells.lock b 0))
puts_two_phase cells b m free least =
    ap (λ lock. with_lock cells (Some lock)) (ap (λ n. put b (record { mode = TwoPhase; min = n })) least
    ∙ sym (free_locked cells b 0 free))
