-- Versions of a chain that come one right behind the other.
use Rattle.std.proofs.Common.{◌≡◌, ◌≢◌, ℕ, ◌+◌, ◌-◌, ◌<◌, ◌≤◌, List, drop, arith, inr, refl, sym, ap, ◌∙◌, subst, zero, suc, slice_index}
use Rattle.std.proofs.lemmas.List.{get_or-drop}
use Rattle.tx_recording.specs.declared.recording.Recording.{Recording}
use Rattle.tx_verdict.specs.Reasons.{HasWritten, IsNext, IsBased, IsBehind}
use Rattle.tx_verdict.specs.Refutations.{IsTrain}

-- behind the first each comes right behind the one before it
pub next_at : (r : Recording) (k : ℕ) (ws : List ℕ) (i t u : ℕ) → IsBased r k ws i → (i ≡ 0 → ⊥)
    → slice_index ws (i - 1) ≡ t → slice_index ws i ≡ u → IsNext r k t u
next_at r k ws zero t u is ne from to = absurd (ne refl)
next_at r k ws (suc i) t u is ne from to =
    let before : suc i - 1 ≡ i = omega arith in
    let same : slice_index ws i ≡ t = sym (ap (λ q. slice_index ws q) before) ∙ from in
    let P : ℕ → Type 0 = λ q. IsNext r k q (slice_index ws (suc i)) in
    let Q : ℕ → Type 0 = λ q. IsNext r k t q in
    subst Q to (subst P same is)

-- who is none of those that came first wrote behind them
pub behind_row : (r : Recording) (k : ℕ) (ws : List ℕ) (count t u : ℕ) → (count ≡ 0 → ⊥)
    → slice_index ws (count - 1) ≡ t
    → ((i : ℕ) → i < count → HasWritten r (slice_index ws i) k × IsBased r k ws i)
    → ((i : ℕ) → i < count → slice_index ws i ≢ u) → IsBehind r k t u
behind_row r k ws count t u some from each other = inr (
  ws,
  count - 1,
  (from, λ i le. each i (omega (arith, some, le))),
  λ i le. other i (omega (arith, some, le)),
)

-- what is known of the version at a place of a stretch
abbrev pub IsCarried : Recording → ℕ → List ℕ → ℕ → ℕ → ℕ → Type 0
IsCarried r k ws from w i = HasWritten r (slice_index ws i) k × (slice_index ws i ≢ w)
    × ((i ≡ from → ⊥) → IsBased r k ws i)

pub train_of : (r : Recording) (k : ℕ) (ws : List ℕ) (from upto t u w : ℕ) → from ≤ upto
    → slice_index ws from ≡ t → slice_index ws upto ≡ u
    → ((i : ℕ) → from ≤ i → i ≤ upto → IsCarried r k ws from w i)
    → (vs : List ℕ) × (n : ℕ) × IsTrain r k vs n t u w
train_of r k ws from upto t u w le first last each = (
  drop from ws,
  upto - from,
  (
    at 0 ∙ ap (λ q. slice_index ws q) (begin) ∙ first,
    at (upto - from) ∙ ap (λ q. slice_index ws q) (end) ∙ last,
    λ i below.
        (let one = each (from + i) (omega arith) (omega (arith, below, le)) in
        (subst (λ q. HasWritten r q k) (sym (at i)) one.0, λ same. one.1 (sym (at i) ∙ same))),
    λ i below.
        (let one = each (from + (i + 1)) (omega arith) (omega (arith, below, le)) in
        next_at r k ws (from + (i + 1)) (slice_index (drop from ws) i) (slice_index (drop from ws) (i + 1))
        (one.2 (λ e. omega (arith, e))) (λ e. omega (arith, e)) (ap (λ q. slice_index ws q) (step i) ∙ sym (at i))
        (sym (at (i + 1)))),
  ),
)
  where
    at : (i : ℕ) → slice_index (drop from ws) i ≡ slice_index ws (from + i)
    at i = get_or-drop from ws i 0

    begin : from + 0 ≡ from
    begin = omega arith

    end : from + (upto - from) ≡ upto
    end = omega (arith, le)

    step : (i : ℕ) → from + (i + 1) - 1 ≡ from + i
    step i = omega arith
