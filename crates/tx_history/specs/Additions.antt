-- What is added to a list of edges. Only this crate's own clauses cite it.
use Rattle.std.specs.Prelude.{◌≡◌, ◌⊎◌, ℕ, ◌+◌, ◌-◌, ◌*◌, ◌^◌, ◌<◌, ◌≤◌, List, length, All, Contains, slice_index, slice_index_or}
use Rattle.tx_order.specs.declared.graph.Edge.{Edge}
use Rattle.tx_history.specs.declared.recorded.Read.{Read}
use Rattle.tx_history.specs.declared.recorded.After.{After}
use Rattle.tx_history.specs.declared.recorded.Recorded.{Recorded}
pub use Rattle.tx_history.specs.Graph.{before_edge, after_edge}
use Rattle.tx_history.specs.Records.{writers_of}

-- the edges that P holds of were added, and no others
pub record Adds (old new : List Edge) (P : Edge → Type 0) : Type 0 where
  pub kept : (e : Edge) → Contains old e → Contains new e
  pub has : (e : Edge) → P e → Contains new e
  pub only : (e : Edge) → Contains new e → Contains old e ⊎ P e

-- an edge of one of the first n
abbrev pub Each : ℕ → (ℕ → Edge → Type 0) → Edge → Type 0
Each n P e = (i : ℕ) × (i < n) × P i e

-- the nodes of the transaction fit their type
abbrev pub IsFew : ℕ → Type 0
IsFew t = 2 * t + 1 < 2 ^ 32

abbrev pub AreFew : List ℕ → Type 0
AreFew ts = All IsFew ts

-- of a transaction
abbrev pub IsOwnEdge : ℕ → Edge → Type 0
IsOwnEdge t e = e ≡ before_edge t t

-- of the version at i among a key's, to the next
abbrev pub IsVersionEdge : List ℕ → ℕ → Edge → Type 0
IsVersionEdge ws i e = (i + 1 < length ws) × (e ≡ after_edge (slice_index ws i) (slice_index ws (i + 1)))

-- of a read, from who wrote what was read
abbrev pub IsSeenEdge : List ℕ → Read → Edge → Type 0
IsSeenEdge ws s e = ((1 ≤ s.version) × (s.version ≤ length ws))
    × (e ≡ after_edge (slice_index ws (s.version - 1)) s.txn)

-- of a read, to who wrote the version after
abbrev pub IsNextEdge : List ℕ → Read → Edge → Type 0
IsNextEdge ws s e = (s.version < length ws) × (e ≡ before_edge s.txn (slice_index ws s.version))

abbrev pub IsReadEdge : List ℕ → Read → Edge → Type 0
IsReadEdge ws s e = IsSeenEdge ws s e ⊎ IsNextEdge ws s e

-- of two that come one after the other
abbrev pub IsAfterEdge : After → Edge → Type 0
IsAfterEdge p e = e ≡ after_edge p.earlier p.later

abbrev pub read_at : Recorded → ℕ → Read
read_at r i = slice_index_or r.reads.items i record { txn = 0; key = 0; version = 0 }

abbrev pub pair_at : Recorded → ℕ → After
pair_at r i = slice_index_or r.after.items i record { earlier = 0; later = 0 }

-- the edges of all transactions, of all versions, of all reads, of all that come one after the
-- other
abbrev pub IsOwnOf : Recorded → Edge → Type 0
IsOwnOf r = Each r.txns IsOwnEdge

abbrev pub IsVersionOf : Recorded → Edge → Type 0
IsVersionOf r = Each (length r.heads.items) (λ k. Each (length (writers_of r k)) (IsVersionEdge (writers_of r k)))

abbrev pub IsReadOf : Recorded → Edge → Type 0
IsReadOf r = Each (length r.reads.items) (λ i. IsReadEdge (writers_of r (read_at r i).key) (read_at r i))

abbrev pub IsAfterOf : Recorded → Edge → Type 0
IsAfterOf r = Each (length r.after.items) (λ i. IsAfterEdge (pair_at r i))
