-- Orders and cycles of a graph. Its nodes are the numbers below a number, its edges a list.
use Rattle.std.specs.Prelude.{◌≡◌, ℕ, ◌<◌, List, [], ◌∷◌, length, Contains, All, slice_index}
use Rattle.tx_order.specs.declared.graph.Edge.{Edge}

-- each edge joins two of n nodes
abbrev pub AreWithin : ℕ → List Edge → Type 0
AreWithin n edges = All (λ edge. (edge.from < n) × (edge.to < n)) edges

-- Numbers of the nodes, each its own, that rise along each edge.
pub record IsOrder (n : ℕ) (edges : List Edge) (places : List ℕ) : Type 0 where
  pub each : length places ≡ n
  pub rises : All (λ edge. slice_index places edge.from < slice_index places edge.to) edges
  pub distinct : (a b : ℕ) → a < n → b < n → slice_index places a ≡ slice_index places b → a ≡ b

-- there is an edge from a to the first of these nodes, from each to the next, and from the last to
-- b
abbrev pub IsWalk : List Edge → ℕ → List ℕ → ℕ → Type 0
IsWalk edges a [] b = Contains edges record { from = a; to = b }
IsWalk edges a (x ∷ xs) b = Contains edges record { from = a; to = x } × IsWalk edges x xs b

-- at least one node, with an edge from each to the next, and from the last to the first
abbrev pub IsCycle : List Edge → List ℕ → Type 0
IsCycle edges [] = ⊥
IsCycle edges (x ∷ xs) = IsWalk edges x xs x
