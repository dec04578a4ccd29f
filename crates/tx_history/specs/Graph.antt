-- The graph of a history. The start of t is its node 2 t, the commit of t its node 2 t + 1.
use Rattle.std.specs.Prelude.{◌≡◌, ◌⊎◌, ◌↔◌, ℕ, ◌+◌, ◌*◌, ◌<◌, List, Contains}
use Rattle.tx_order.specs.declared.graph.Edge.{Edge}
use Rattle.tx_order.specs.Graphs.{IsCycle}
use Rattle.tx_history.specs.declared.recorded.Read.{Read}
use Rattle.tx_history.specs.declared.recorded.After.{After}
use Rattle.tx_history.specs.Histories.{History, HasVersion}

abbrev pub start_node : ℕ → ℕ
start_node t = 2 * t

abbrev pub commit_node : ℕ → ℕ
commit_node t = 2 * t + 1

-- the start of t lies below the commit of u
abbrev pub before_edge : ℕ → ℕ → Edge
before_edge t u = record { from = start_node t; to = commit_node u }

-- the commit of u lies below the start of t
abbrev pub after_edge : ℕ → ℕ → Edge
after_edge u t = record { from = commit_node u; to = start_node t }

-- of a transaction, from its start to its commit
abbrev pub IsOwn : History → Edge → Type 0
IsOwn h e = (t : ℕ) × (t < h.txns) × (e ≡ before_edge t t)

-- of two neighbours, the edge from the first one's writer to the second one's
abbrev pub IsWw : History → Edge → Type 0
IsWw h e = (k : ℕ) × (i : ℕ) × HasVersion h k i × HasVersion h k (i + 1)
    × (e ≡ after_edge (h.writer k i) (h.writer k (i + 1)))

-- of a read, the edge from who wrote what was read
abbrev pub IsWr : History → Edge → Type 0
IsWr h e = (r : Read) × Contains h.reads r × HasVersion h r.key r.version
    × (e ≡ after_edge (h.writer r.key r.version) r.txn)

-- of a read, the edge to who wrote the version after
abbrev pub IsRw : History → Edge → Type 0
IsRw h e = (r : Read) × Contains h.reads r × HasVersion h r.key (r.version + 1)
    × (e ≡ before_edge r.txn (h.writer r.key (r.version + 1)))

-- of two of which one is known to have begun after the other had ended
abbrev pub IsAfter : History → Edge → Type 0
IsAfter h e = (p : After) × Contains h.after p × (e ≡ after_edge p.earlier p.later)

abbrev pub IsEdge : History → Edge → Type 0
IsEdge h e = IsOwn h e ⊎ (IsWw h e ⊎ (IsWr h e ⊎ (IsRw h e ⊎ IsAfter h e)))

-- these are its edges, and no others
abbrev pub IsGraph : History → List Edge → Type 0
IsGraph h edges = (e : Edge) → Contains edges e ↔ IsEdge h e

-- these nodes are a cycle of its graph
abbrev pub IsCycleOf : History → List ℕ → Type 0
IsCycleOf h nodes = (edges : List Edge) × IsGraph h edges × IsCycle edges nodes
