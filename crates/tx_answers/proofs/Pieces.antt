-- A list that is made piece by piece.
use Rattle.std.proofs.Common.{◌≡◌, ℕ, suc, ◌+◌, ◌<◌, List, ◌++◌, length, take, get_or, sym, ap, ◌∙◌, append_assoc, arith}
use Rattle.std.specs.List.{flat_map}
use Rattle.std.proofs.lemmas.List.{flat_map_more, take_more}
use Rattle.tx_answers.specs.Traces.{each_of}

-- the piece of one more element
pub piece_more : {X A : Type 0} (f : X → List A) (old : List A) (xs : List X) (i : ℕ) (d : X) → i < length xs
    → (old ++ flat_map f (take i xs)) ++ f (get_or xs i d) ≡ old ++ flat_map f (take (i + 1) xs)
piece_more f old xs i d h =
    flat_map_more f old (take i xs) (get_or xs i d)
    ∙ ap (λ ys. old ++ flat_map f ys) (sym (take_more xs i d h))

-- that of one more number
pub each_more : {A : Type 0} (f : ℕ → List A) (n : ℕ) → each_of f n ++ f n ≡ each_of f (n + 1)
each_more f n =
    let next : suc n ≡ n + 1 = omega arith in
    ap (each_of f) next

-- the same behind others
pub each_more_behind : {A : Type 0} (f : ℕ → List A) (old : List A) (n : ℕ)
    → (old ++ each_of f n) ++ f n ≡ old ++ each_of f (n + 1)
each_more_behind f old n = append_assoc old (each_of f n) (f n) ∙ ap (λ t. old ++ t) (each_more f n)
