-- The numbers that are noted of keys.
use Rattle.std.proofs.Common.{◌≡◌, ◌≢◌, ℕ, inl, inr, cond, bytes_eq, refl, sym, ap, ◌∙◌}
use Rattle.std.proofs.lemmas.Bool.{cases_Bool}
use Rattle.std.proofs.lemmas.Slice.Eq.{bytes_eq-Decides}
use Rattle.tx_types.specs.declared.key.Key.{Key}
use Rattle.tx_plan.specs.declared.key_change.KeyChange.{KeyChange}
use Rattle.tx_plan.specs.declared.key_change.KeyChange.TheVariants.{Nothing, Lock, Ttl, Minimum, Commit, RollBack}
use Rattle.tx_cells.specs.Numbers.{noted, noted_by}

-- a change that is one notes its number
pub noted_where : (c : KeyChange) → c ≢ Nothing → (s : Key → ℕ) (key : Key) (n : ℕ) (k : Key)
    → noted_by c s key n k ≡ noted s key n k
noted_where Nothing some s key n k = absurd (some refl)
noted_where (Lock new) some s key n k = refl
noted_where (Ttl t) some s key n k = refl
noted_where (Minimum t) some s key n k = refl
noted_where (Commit t o) some s key n k = refl
noted_where (RollBack t r l) some s key n k = refl

-- a number that is noted back
pub noted_back : (s : Key → ℕ) (key : Key) (n : ℕ) (k : Key) → noted (noted s key n) key (s key) k ≡ s k
noted_back s key n k =
    elim (cases_Bool (bytes_eq key k)) [
      | inl e ↦ ap (λ b. cond b (s key) (noted s key n k)) e ∙ ap s ((bytes_eq-Decides key k).0 e)
      | inr e ↦ ap (λ b. cond b (s key) (noted s key n k)) e ∙ ap (λ b. cond b n (s k)) e
    ]
