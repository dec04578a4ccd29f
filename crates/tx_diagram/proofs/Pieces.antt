-- A list that is made piece by piece.
use Rattle.std.proofs.Common.{◌≡◌, ℕ, ◌+◌, ◌<◌, List, ◌++◌, length, take, get_or, sym, ap, ◌∙◌}
use Rattle.std.specs.List.{flat_map}
use Rattle.std.proofs.lemmas.List.{flat_map_more, take_more}

-- the piece of one more element
pub piece_more : {X A : Type 0} (f : X → List A) (old : List A) (xs : List X) (i : ℕ) (d : X) → i < length xs
    → (old ++ flat_map f (take i xs)) ++ f (get_or xs i d) ≡ old ++ flat_map f (take (i + 1) xs)
piece_more f old xs i d h =
    flat_map_more f old (take i xs) (get_or xs i d)
    ∙ ap (λ ys. old ++ flat_map f ys) (sym (take_more xs i d h))
