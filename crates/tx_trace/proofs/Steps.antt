-- Steps that are added at the end, and a map that has one more.
use Rattle.std.proofs.Common.{◌≡◌, ℕ, ◌==◌, cond, List, [], ◌∷◌, ◌++◌, reverse, Option, sym, ap, ◌∙◌}
use Rattle.std.proofs.lemmas.List.{reverse-append}
use Rattle.std.specs.Cmp.{unsigned_ties}
use Rattle.std.specs.Ordering.{nat_cmp, is_eq}

-- one step more
pub one_more : {X : Type 0} (before between after : List X) (x : X) → between ≡ before → after ≡ between ++ x ∷ []
    → reverse after ≡ x ∷ reverse before
one_more before between after x same more =
    ap reverse (more ∙ ap (λ xs. xs ++ x ∷ []) same) ∙ reverse-append before (x ∷ [])

-- a map with another value at a number
pub changed_at : {X : Type 0} (old new : ℕ → Option X) (t : ℕ) (o : Option X)
    → ((q : ℕ) → new q ≡ cond (is_eq (nat_cmp t q)) o (old q)) → (q : ℕ) → new q ≡ cond (t == q) o (old q)
changed_at old new t o updates q = updates q ∙ ap (λ b. cond b o (old q)) (sym (unsigned_ties t q))
