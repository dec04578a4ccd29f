-- How many transactions were not told of yet: going on ends, since there are fewer each time.
use Rattle.std.specs.Prelude.{ℕ, ◌+◌, Bool, true, false, List, [], ◌∷◌}

abbrev pub untold : List Bool → ℕ
untold [] = 0
untold (true ∷ bs) = untold bs
untold (false ∷ bs) = untold bs + 1
