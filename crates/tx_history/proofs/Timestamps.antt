-- What the places in an order of the graph say of starts and commits.
use Rattle.std.proofs.Common.{◌≡◌, ℕ, ◌*◌, ◌<◌, List, arith, inl, inr, refl, subst, Contains, slice_index}
use Rattle.std.specs.List.{All}
use Rattle.tx_order.specs.declared.graph.Edge.{Edge}
use Rattle.tx_order.specs.Graphs.{AreWithin, IsOrder}
use Rattle.tx_history.specs.Histories.{History, Rises}
use Rattle.tx_history.specs.Graph.{IsGraph, start_node, commit_node, before_edge, after_edge}

pub all_at : (P : Edge → Type 0) (xs : List Edge) (x : Edge) → All P xs → Contains xs x → P x
all_at P xs x all (i, lt, is) = subst P is (all i x lt)

less : (a b p q : ℕ) → a ≡ p → b ≡ q → p < q → a < b
less a b p q e f lt = omega arith

module _ (h : History) (edges : List Edge) (txns : ℕ) (places starts commits : List ℕ) (graph : IsGraph h edges)
    (within : AreWithin (2 * txns) edges) (order : IsOrder (2 * txns) edges places)
    (at_start : (t : ℕ) → t < txns → slice_index starts t ≡ slice_index places (start_node t))
    (at_commit : (t : ℕ) → t < txns → slice_index commits t ≡ slice_index places (commit_node t)) where
  rises_before : (t u : ℕ) → Contains edges (before_edge t u) → slice_index starts t < slice_index commits u
  rises_before t u is =
      let (from, to) = all_at (λ edge. (edge.from < 2 * txns) × (edge.to < 2 * txns)) edges
      (before_edge t u) within is in
      let lt = all_at (λ edge. slice_index places edge.from < slice_index places edge.to) edges
      (before_edge t u) order.rises is in
      less _ _ _ _ (at_start t (omega (arith, from))) (at_commit u (omega (arith, to))) lt

  rises_after : (u t : ℕ) → Contains edges (after_edge u t) → slice_index commits u < slice_index starts t
  rises_after u t is =
      let (from, to) = all_at (λ edge. (edge.from < 2 * txns) × (edge.to < 2 * txns)) edges
      (after_edge u t) within is in
      let lt = all_at (λ edge. slice_index places edge.from < slice_index places edge.to) edges
      (after_edge u t) order.rises is in
      less _ _ _ _ (at_commit u (omega (arith, from))) (at_start t (omega (arith, to))) lt

  rising : Rises h (slice_index starts) (slice_index commits)
  rising = record {
    own = λ t lt. rises_before _ _ ((graph _).1 (inl (t, lt, refl)));
    ww = λ k i has more. rises_after _ _ ((graph _).1 (inr (inl (k, i, has, more, refl))));
    wr = λ r is has. rises_after _ _ ((graph _).1 (inr (inr (inl (r, is, has, refl)))));
    rw = λ r is has. rises_before _ _ ((graph _).1 (inr (inr (inr (inl (r, is, has, refl))))));
    after = λ p is. rises_after _ _ ((graph _).1 (inr (inr (inr (inr (p, is, refl))))));
  }

pub places_rise : (h : History) (edges : List Edge) (txns : ℕ) (places starts commits : List ℕ) → IsGraph h edges
    → AreWithin (2 * txns) edges → IsOrder (2 * txns) edges places
    → ((t : ℕ) → t < txns → slice_index starts t ≡ slice_index places (start_node t))
    → ((t : ℕ) → t < txns → slice_index commits t ≡ slice_index places (commit_node t))
    → Rises h (slice_index starts) (slice_index commits)
places_rise h edges txns places starts commits graph within order at_start at_commit =
    rising h edges txns places starts commits graph within order at_start at_commit
