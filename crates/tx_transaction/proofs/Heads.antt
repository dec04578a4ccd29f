-- The keys at the head of a buffer of which a phase has nothing left to send.
use Rattle.std.proofs.Common.{◌≤◌, ◌⊎◌, inl, inr, ◌≡◌, ℕ, ◌+◌, ◌-◌, ◌<◌, zero, suc, true, false, length, [], ◌∷◌, ◌++◌, Option, Some, None, IfSome, IfNone, refl, sym, ap, ◌∙◌, arith}
use Rattle.std.proofs.lemmas.Bool.{cases_lt}
use Rattle.tx_transaction.specs.declared.state.Phase.{Phase}
use Rattle.tx_transaction.specs.declared.state.Progress.{Progress}
use Rattle.tx_transaction.specs.Buffers.{Entries, progress_at, with_progress, wants, first_index}
use Rattle.tx_transaction.proofs.Places.{first_found, place_none}
use Rattle.tx_transaction.proofs.Parts.{progress_later}

-- the progress of an index that was set, and of another
elsewhere : (es : Entries) (i k : ℕ) (p : Progress) → (k ≡ i → ⊥)
    → progress_at (with_progress es i p) k ≡ progress_at es k
elsewhere [] i k p other = refl
elsewhere (e ∷ es) zero zero p other = absurd (other refl)
elsewhere (e ∷ es) zero (suc k) p other = refl
elsewhere (e ∷ es) (suc i) zero p other = refl
elsewhere (e ∷ es) (suc i) (suc k) p other = elsewhere es i k p (λ same. other (omega (arith, same)))

there : (es : Entries) (i : ℕ) (p : Progress) → i < length es → progress_at (with_progress es i p) i ≡ p
there [] i p lt = absurd (omega (arith, lt))
there (e ∷ es) zero p lt = refl
there (e ∷ es) (suc i) p lt = there es i p (omega (arith, lt))

-- nothing is left to send of the keys before an index
abbrev pub AreSettled : Phase → Entries → ℕ → Type 0
AreSettled x es n = (k : ℕ) → k < n → wants x (progress_at es k) ≡ false

-- those before one whose progress is set
pub settled_before : (x : Phase) (es : Entries) (n m i : ℕ) (p : Progress) → AreSettled x es n → m ≤ n → m ≤ i
    → AreSettled x (with_progress es i p) m
settled_before x es n m i p below le before k lt =
    ap (wants x) (elsewhere es i k p (λ same. absurd (omega (arith, same, lt, before))))
    ∙ below k (omega (arith, lt, le))

-- and those up to it, of which nothing is left to send then
pub settled_past : (x : Phase) (es : Entries) (n m i : ℕ) (p : Progress) → AreSettled x es n → i < length es
    → wants x p ≡ false → (m ≤ n) ⊎ ((n ≡ i) × (m ≤ i + 1)) → AreSettled x (with_progress es i p) m
settled_past x es n m i p below within done most k lt = elim (cases_lt k i) [
  | inl less ↦ ap (wants x) (elsewhere es i k p (λ same. absurd (omega (arith, same, less))))
      ∙ below k (behind less most)
  | inr no_less ↦ elim (cases_lt i k) [
    | inl more ↦ ap (wants x) (elsewhere es i k p (λ same. absurd (omega (arith, same, more))))
        ∙ below k (beyond more most)
    | inr no_more ↦ ap (λ j. wants x (progress_at (with_progress es i p) j)) (is no_less no_more)
        ∙ ap (wants x) (there es i p within) ∙ done
  ]
]
  where
    behind : k < i → (m ≤ n) ⊎ ((n ≡ i) × (m ≤ i + 1)) → k < n
    behind less (inl le) = omega (arith, lt, le)
    behind less (inr at) = omega (arith, less, at.0)

    beyond : i < k → (m ≤ n) ⊎ ((n ≡ i) × (m ≤ i + 1)) → k < n
    beyond more (inl le) = omega (arith, lt, le)
    beyond more (inr at) = absurd (omega (arith, more, lt, at.1))

    is : i ≤ k → k ≤ i → k ≡ i
    is le ge = omega (arith, le, ge)

-- those behind the first few entries
pub settled_behind : (x : Phase) (few more es : Entries) (n m end : ℕ) → few ++ more ≡ es → n ≡ length few
    → end ≤ n + m → AreSettled x more m → (k : ℕ) → n ≤ k → k < end → wants x (progress_at es k) ≡ false
settled_behind x few more es n m end is count most below k le lt =
    ap (λ l. wants x (progress_at l k)) (sym is)
    ∙ ap (wants x) (progress_later few more k (omega (arith, le, count)))
    ∙ below (k - length few) (omega (arith, le, lt, most, count))

-- the keys before an index, and from there to another
pub settled_up : (x : Phase) (es : Entries) (first second : ℕ)
    → ((k : ℕ) → 0 ≤ k → k < first → wants x (progress_at es k) ≡ false)
    → ((k : ℕ) → first ≤ k → k < second → wants x (progress_at es k) ≡ false) → AreSettled x es second
settled_up x es first second before behind k lt = elim (cases_lt k first) [
  | inl less ↦ before k (omega arith) less
  | inr more ↦ behind k more lt
]

settled_on : (x : Phase) (es : Entries) (from end : ℕ) → AreSettled x es from
    → ((k : ℕ) → from ≤ k → k < end → wants x (progress_at es k) ≡ false) → AreSettled x es end
settled_on x es from end before behind k lt = elim (cases_lt k from) [
  | inl less ↦ before k less
  | inr more ↦ behind k more lt
]

-- what is found behind those of which nothing is left to send is the first, or there is none
pub first_is : (x : Phase) (es : Entries) (from end : ℕ) (found : Option ℕ) → AreSettled x es from → end ≡ length es
    → IfSome found (λ i. (i < end) × (wants x (progress_at es i) ≡ true)
    × ((k : ℕ) → from ≤ k → k < i → wants x (progress_at es k) ≡ false))
    → IfNone found ((k : ℕ) → from ≤ k → k < end → wants x (progress_at es k) ≡ false)
    → found ≡ first_index x es
first_is x es from end (Some i) before is there none =
    first_found x es i (omega (arith, there.0, is)) (settled_on x es from i before there.2) there.1
first_is x es from end None before is there none =
    sym (place_none 0 x es (λ k lt. settled_on x es from end before none k (omega (arith, lt, is))))
