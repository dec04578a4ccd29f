-- Who commit right behind their starts, of which a table has one transaction each, do not overlap.
use Rattle.std.proofs.Common.{ℕ, Bool, List, arith, inl, inr, sym, ap, ◌∙◌, slice_index}
use Rattle.std.proofs.lemmas.Bool.{cases_eq, cases_lt}
use Rattle.tx_verdict.specs.Fits.{AreInTurn, CommitAtOnce}

pub in_turn : (starters : List ℕ) (live : List Bool) (starts commits : List ℕ)
    → CommitAtOnce starters live starts commits → AreInTurn live starts commits
in_turn starters live starts commits once t u a b differ =
    let (first, one) = once t a in
    let (second, other) = once u b in
    elim (cases_lt (slice_index starts t) (slice_index starts u)) [
      | inl lt ↦ inl (omega (arith, one, lt))
      | inr le ↦ elim (cases_eq (slice_index starts t) (slice_index starts u)) [
        | inl same ↦ absurd (differ (sym first ∙ ap (slice_index starters) same ∙ second))
        | inr ne ↦ inr (omega (arith, other, le, ne))
      ]
    ]
