-- Writers of a key that saw one another leave no gap.
use Rattle.std.proofs.Common.{◌≢◌, ℕ, ◌≤◌, List, arith, inl, inr, sym, zero, suc, slice_index}
use Rattle.tx_recording.specs.declared.recording.Orders.{Orders}
use Rattle.tx_recording.specs.declared.recording.Recording.{Recording}
use Rattle.tx_recording.specs.Explanations.{Explanation, IsWriter, Explains}
use Rattle.tx_verdict.specs.Forced.{StartsAt}

module _ (r : Recording) (orders : Orders) (x : Explanation) (e : Explains r orders x) (k : ℕ) (ws : List ℕ) (n h : ℕ)
    (writers : (i : ℕ) → i ≤ n → IsWriter r x (slice_index ws i) k) (based : (i : ℕ) → i ≤ n → StartsAt r x k ws i)
    (writer : IsWriter r x h k) (other : (i : ℕ) → i ≤ n → slice_index ws i ≢ h) where
  not_below : (i : ℕ) → i ≤ n → x.commit h ≤ x.start (slice_index ws i) → ⊥
  not_below zero le below = (let lt = based zero le h writer in omega (arith, lt, below))
  not_below (suc i) le below =
      let lower : i ≤ n = omega (arith, le) in
      let upto = (based (suc i) le).2 h writer below in
      let up = e.above h writer.0 in
      elim (e.apart k h (slice_index ws i) writer (writers i lower) (λ same. other i lower (sym same))) [
        | inl before ↦ not_below i lower before
        | inr later ↦ omega (arith, later, up, upto)
      ]

  pub no_gap : x.commit (slice_index ws n) ≤ x.start h
  no_gap = elim (e.apart k h (slice_index ws n) writer (writers n (omega arith))
      (λ same. other n (omega arith) (sym same))) [
        | inl before ↦ absurd (not_below n (omega arith) before)
        | inr later ↦ later
      ]
