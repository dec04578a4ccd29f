-- Why there is an edge.
use Rattle.std.specs.Prelude.{◌≡◌, ℕ, ◌+◌, ◌-◌, ◌<◌, ◌≤◌, List, length, Contains, Some, slice_get, slice_index, nat_lt, if◌then◌else◌}
use Rattle.tx_order.specs.declared.graph.Edge.{Edge}
use Rattle.tx_history.specs.declared.recorded.Read.{Read}
use Rattle.tx_history.specs.declared.dependency.DependencyKind.{DependencyKind}
use Rattle.tx_history.specs.declared.dependency.DependencyKind.TheVariants.{Own, Ww, Wr, Rw, After}
use Rattle.tx_history.specs.declared.dependency.Dependency.{Dependency}
use Rattle.tx_history.specs.Histories.{History, HasVersion}
use Rattle.tx_history.specs.Graph.{before_edge, after_edge}

-- what each kind says of two transactions, a key and a version, or the place of a pair
abbrev pub Depends : History → DependencyKind → ℕ → ℕ → ℕ → ℕ → Type 0
Depends h Own from to key version = (from < h.txns) × (from ≡ to)
Depends h Ww from to key version = HasVersion h key version × HasVersion h key (version + 1)
    × (h.writer key version ≡ from) × (h.writer key (version + 1) ≡ to)
Depends h Wr from to key version = Contains h.reads record { txn = to; key = key; version = version }
    × HasVersion h key version × (h.writer key version ≡ from)
Depends h Rw from to key version = Contains h.reads record { txn = from; key = key; version = version }
    × HasVersion h key (version + 1) × (h.writer key (version + 1) ≡ to)
Depends h After from to key version = slice_get h.after version ≡ Some record { earlier = from; later = to }

-- the edge of each kind
abbrev pub edge_of : DependencyKind → ℕ → ℕ → Edge
edge_of Own from to = before_edge from to
edge_of Rw from to = before_edge from to
edge_of Ww from to = after_edge from to
edge_of Wr from to = after_edge from to
edge_of After from to = after_edge from to

-- the dependency holds, and the edge is that of it
abbrev pub IsDependency : History → Dependency → Edge → Type 0
IsDependency h d e = Depends h d.kind d.from d.to d.key d.version × (e ≡ edge_of d.kind d.from d.to)

-- the node after the one at i, round
abbrev pub next_of : List ℕ → ℕ → ℕ
next_of nodes i = if nat_lt (i + 1) (length nodes) then slice_index nodes (i + 1) else slice_index nodes 0

-- one for each step round these nodes
pub record AreDependencies (h : History) (nodes : List ℕ) (found : List Dependency) : Type 0 where
  pub each : length found ≡ length nodes
  pub holds : (i : ℕ) (d : Dependency) → slice_get found i ≡ Some d
      → IsDependency h d record { from = slice_index nodes i; to = next_of nodes i }

-- of a key's writers
abbrev pub IsWwIn : List ℕ → ℕ → ℕ → ℕ → Dependency → Type 0
IsWwIn ws key from to d = (i : ℕ) × (i + 1 < length ws) × (slice_index ws i ≡ from) × (slice_index ws (i + 1) ≡ to)
    × (d ≡ record { kind = Ww; from = from; to = to; key = key; version = i + 1 })

abbrev pub IsNoWwIn : List ℕ → ℕ → ℕ → Type 0
IsNoWwIn ws from to = (i : ℕ) → i + 1 < length ws → slice_index ws i ≡ from → slice_index ws (i + 1) ≡ to → ⊥

-- this read, by `to`, is of a version that `from` wrote
abbrev pub IsSeen : List ℕ → Read → ℕ → ℕ → Type 0
IsSeen ws r from to = (r.txn ≡ to) × (1 ≤ r.version) × (r.version ≤ length ws) × (slice_index ws (r.version - 1) ≡ from)

-- this read, by `from`, is of the version before one that `to` wrote
abbrev pub IsNext : List ℕ → Read → ℕ → ℕ → Type 0
IsNext ws r from to = (r.txn ≡ from) × (r.version < length ws) × (slice_index ws r.version ≡ to)
