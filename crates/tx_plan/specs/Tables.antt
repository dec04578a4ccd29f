-- How a case table is written: a chain of cases, of which the first that holds decides.
use Rattle.std.specs.Prelude.{◌⊎◌}

-- where C holds the answer is P's, else Q's
abbrev pub Case : Type 0 → Type 0 → Type 0 → Type 0
Case C P Q = (C × P) ⊎ ((C → ⊥) × Q)

-- where C holds of some x the answer is P's of that x, else Q's
abbrev pub CaseOf : {X : Type 0} → (X → Type 0) → (X → Type 0) → Type 0 → Type 0
CaseOf {X} C P Q = ((x : X) × C x × P x) ⊎ (((x : X) → C x → ⊥) × Q)
