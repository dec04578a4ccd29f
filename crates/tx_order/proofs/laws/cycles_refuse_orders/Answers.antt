-- Along a walk the numbers rise, so round a cycle one would lie below itself.
use Rattle.std.proofs.Common.{ℕ, ◌<◌, List, [], ◌∷◌, arith, Contains, subst}
use Rattle.std.specs.List.{All}
use Rattle.tx_order.specs.declared.graph.Edge.{Edge}
use Rattle.tx_order.specs.Graphs.{IsWalk, IsCycle}
use Rattle.tx_order.proofs.laws.cycles_refuse_orders.Goals as goal

-- each edge rises
abbrev Rises : (ℕ → ℕ) → List Edge → Type 0
Rises number edges = All (λ (edge : Edge). number edge.from < number edge.to) edges

edge_rises : (edges : List Edge) (number : ℕ → ℕ) (a b : ℕ) → Rises number edges
    → Contains edges record { from = a; to = b } → number a < number b
edge_rises edges number a b rises (i, h, is) =
    subst (λ (edge : Edge). number edge.from < number edge.to) is (rises i record { from = a; to = b } h)

walk_rises : (edges : List Edge) (number : ℕ → ℕ) (a : ℕ) (xs : List ℕ) (b : ℕ) → Rises number edges
    → IsWalk edges a xs b → number a < number b
walk_rises edges number a [] b rises walk = edge_rises edges number a b rises walk
walk_rises edges number a (x ∷ xs) b rises walk =
    let first = edge_rises edges number a x rises walk.0 in
    let rest = walk_rises edges number x xs b rises walk.1 in
    omega (arith, first, rest)

none_round : (edges : List Edge) (nodes : List ℕ) (number : ℕ → ℕ) → Rises number edges → IsCycle edges nodes → ⊥
none_round edges [] number rises cycle = cycle
none_round edges (x ∷ xs) number rises cycle = let lt = walk_rises edges number x xs x rises cycle in omega (arith, lt)

pub returns : goal.returns
returns c edges nodes number rises cycle = none_round edges nodes number rises cycle
