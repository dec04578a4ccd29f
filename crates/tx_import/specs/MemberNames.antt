-- Members of a line that have one name.
use Rattle.std.specs.Prelude.{◌≡◌, ℕ, List, Some}
use Rattle.json.specs.Json.{Members, object, document}
use Rattle.json.specs.Strict.{keys, AreDistinct}

-- the line is the object of these members, in the order of its text
abbrev pub IsObjectOf : List ℕ → Members → Type 0
IsObjectOf line ms = document line ≡ Some (object ms)

-- two members of the line have one name
abbrev pub HasOneTwice : List ℕ → Type 0
HasOneTwice line = (ms : Members) × IsObjectOf line ms × (AreDistinct (keys ms) → ⊥)

-- no two members of the line have one name
abbrev pub HasNoneTwice : List ℕ → Type 0
HasNoneTwice line = (ms : Members) → IsObjectOf line ms → AreDistinct (keys ms)
