-- What is said of a recording before its versions are looked at.
use Rattle.std.proofs.Common.{◌≡◌, ℕ, List, [], ◌∷◌, ◌++◌, Contains, subst, inl, inr}
use Rattle.std.proofs.lemmas.List.Elements.{Contains-push_cases}
use Rattle.tx_recording.specs.declared.recording.Recording.{Recording}
use Rattle.tx_verdict.specs.Undecided.{IsUndecided, AreUndecided}

-- keys of which two puts may come in two orders, and one more
pub undecided_more : (r : Recording) (old new : List ℕ) (key : ℕ) → new ≡ old ++ key ∷ [] → IsUndecided r key
    → AreUndecided r old
    → AreUndecided r new
undecided_more r old new key is one all k there =
    elim (Contains-push_cases old key k (subst (λ q. Contains q k) is there)) [
      | inl before ↦ all k before
      | inr same ↦ subst (λ q. IsUndecided r q) same one
    ]
