-- How far a search depth first has come. Only this crate's own clauses cite it.
use Rattle.std.specs.Prelude.{◌≡◌, ℕ, ◌+◌, ◌-◌, ◌*◌, ◌<◌, ◌≤◌, List, length, Contains, slice_index_or, sum_by}
use Rattle.std.specs.List.Sorted.{IsNonDecreasingBy}
use Rattle.tx_order.specs.declared.graph.Edge.{Edge}
use Rattle.tx_order.specs.declared.search.Mark.{Mark}
use Rattle.tx_order.specs.declared.search.Mark.TheVariants.{Unseen, Open, Done}
use Rattle.tx_order.specs.declared.search.Frame.{Frame}

-- the edges from one node lie together
abbrev pub AreByFrom : List Edge → Type 0
AreByFrom edges = IsNonDecreasingBy (λ (edge : Edge). edge.from) edges

abbrev pub edge_at : List Edge → ℕ → Edge
edge_at edges e = slice_index_or edges e record { from = 0; to = 0 }

abbrev pub mark_of : List Mark → ℕ → Mark
mark_of marks v = slice_index_or marks v Unseen

abbrev pub frame_at : List Frame → ℕ → Frame
frame_at path p = slice_index_or path p record { node = 0; next = 0 }

abbrev pub node_at : List Frame → ℕ → ℕ
node_at path p = (frame_at path p).node

-- the last node of the path
abbrev pub top_of : List Frame → Frame
top_of path = frame_at path (length path - 1)

-- the nodes that are finished, by how many were before; each edge from one leads to an earlier one
pub record Finishes (edges : List Edge) (marks : List Mark) (done : ℕ) : Type 0 where
  pub below : (v f : ℕ) → mark_of marks v ≡ Done f → f < done
  pub distinct : (v w f : ℕ) → mark_of marks v ≡ Done f → mark_of marks w ≡ Done f → v ≡ w
  pub leads : (e f : ℕ) → e < length edges → mark_of marks (edge_at edges e).from ≡ Done f
      → (g : ℕ) × (g < f) × (mark_of marks (edge_at edges e).to ≡ Done g)

-- the path: what is open lies on it, each node has an edge to the next, and the edges of each that
-- were passed lead to finished nodes
pub record IsPath (edges : List Edge) (marks : List Mark) (path : List Frame) : Type 0 where
  pub opened : (v p : ℕ) → mark_of marks v ≡ Open p → (p < length path) × (node_at path p ≡ v)
  pub marked : (p : ℕ) → p < length path → mark_of marks (node_at path p) ≡ Open p
  pub upto : (p : ℕ) → p < length path → (frame_at path p).next ≤ length edges
  pub ahead : (p e : ℕ) → p < length path → (frame_at path p).next ≤ e → e < length edges
      → node_at path p ≤ (edge_at edges e).from
  pub linked : (p : ℕ) → p + 1 < length path
      → Contains edges record { from = node_at path p; to = node_at path (p + 1) }
  pub passed : (p e : ℕ) → p < length path → e < (frame_at path p).next → e < length edges
      → (edge_at edges e).from ≡ node_at path p → (f : ℕ) × (mark_of marks (edge_at edges e).to ≡ Done f)

-- how many nodes no search has met
abbrev pub unseen : Mark → ℕ
unseen Unseen = 1
unseen _ = 0

-- each node is unseen, open or finished
abbrev pub Counts : List Mark → List Frame → ℕ → Type 0
Counts marks path done = sum_by unseen marks + (length path + done) ≡ length marks

pub record IsSearch (edges : List Edge) (marks : List Mark) (path : List Frame) (done : ℕ) : Type 0 where
  pub finishes : Finishes edges marks done
  pub path_is : IsPath edges marks path
  pub counts : Counts marks path done

-- what was met stays met
abbrev pub StaysMet : List Mark → List Mark → Type 0
StaysMet old new = (length new ≡ length old) × ((v : ℕ) → mark_of new v ≡ Unseen → mark_of old v ≡ Unseen)

-- how many steps may be left of a node on the path
abbrev pub rest_of : List Edge → Frame → ℕ
rest_of edges frame = length edges + 1 - frame.next

-- how many steps may be left: of each unseen node to meet it, to pass each edge and to finish it
abbrev pub steps_left : List Edge → List Mark → List Frame → ℕ
steps_left edges marks path = sum_by unseen marks * (length edges + 2) + sum_by (rest_of edges) path

-- the place of a finished node: those that were finished later come first
abbrev pub place_in : ℕ → Mark → ℕ
place_in done (Done f) = done - f
place_in done _ = 0
