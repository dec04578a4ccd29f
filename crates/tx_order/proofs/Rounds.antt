-- Nodes that are noted one after another, each with its edge to the next.
use Rattle.std.proofs.Common.{◌≡◌, ◌≢◌, ℕ, ◌+◌, ◌-◌, ◌<◌, ◌≤◌, List, [], ◌∷◌, ◌++◌, length, arith, inl, inr, sym, subst, Contains, slice_index}
use Rattle.std.proofs.lemmas.Bool.{cases_lt}
use Rattle.std.proofs.lemmas.Grind.{common_steps}
use Rattle.std.proofs.lemmas.List.Elements.{Contains-get_or}
use Rattle.tx_order.specs.declared.graph.Edge.{Edge}
use Rattle.tx_order.specs.Graphs.{IsCycle}
use Rattle.tx_order.specs.Search.{edge_at}
use Rattle.tx_order.proofs.Cycles.{cycle_of}
use Rattle.tx_order.proofs.Marks.{same_edge}

at_below : (ns : List ℕ) (x j : ℕ) → j < length ns → slice_index (ns ++ x ∷ []) j ≡ slice_index ns j
at_below ns x j h = grind (arith, common_steps)

at_end : (ns : List ℕ) (x j : ℕ) → j ≡ length ns → slice_index (ns ++ x ∷ []) j ≡ x
at_end ns x j h = grind (arith, common_steps)

-- what holds of each number noted so far, and of one more
pub noted : (P : ℕ → ℕ → Type 0) (new ns : List ℕ) (x i : ℕ) → new ≡ ns ++ x ∷ [] → length ns ≡ i
    → ((j : ℕ) → j < i → P j (slice_index ns j)) → P i x → (j : ℕ) → j < i + 1 → P j (slice_index new j)
noted P new ns x i is n old last j lt =
    subst (λ ms. P j (slice_index ms j)) (sym is) (elim (cases_lt j i) [
      | inl below ↦ subst (P j) (sym (at_below ns x j (omega (arith, below, n)))) (old j below)
      | inr above ↦ (let same : i ≡ j = omega (arith, above, lt) in
          subst (P j) (sym (at_end ns x j (omega (arith, same, n)))) (subst (λ q. P q x) same last))
    ])

-- an edge that leads to another one's node
pub joins : (edges : List Edge) (s t : ℕ) → s < length edges → (edge_at edges s).to ≡ (edge_at edges t).from
    → Contains edges record { from = (edge_at edges s).from; to = (edge_at edges t).from }
joins edges s t lt same =
    subst (λ q. Contains edges record { from = (edge_at edges s).from; to = q }) same
    (Contains-get_or edges s record { from = 0; to = 0 } lt)

pub joins_at : (edges : List Edge) (s t u : ℕ) → s < length edges → (edge_at edges s).to ≡ (edge_at edges t).from
    → t ≡ u
    → Contains edges record { from = (edge_at edges s).from; to = (edge_at edges u).from }
joins_at edges s t u lt same at =
    subst (λ q. Contains edges record { from = (edge_at edges s).from; to = (edge_at edges q).from }) at
    (joins edges s t lt same)

-- round
pub round : (edges : List Edge) (nodes steps : List ℕ) → length nodes ≡ length steps → length steps ≢ 0
    → ((j : ℕ) → j < length steps → slice_index nodes j ≡ (edge_at edges (slice_index steps j)).from)
    → ((j : ℕ) → j < length steps → j + 1 < length steps
    → Contains edges record { from = slice_index nodes j; to = (edge_at edges (slice_index steps (j + 1))).from })
    → ((j : ℕ) → j < length steps → length steps ≤ j + 1
    → Contains edges record { from = slice_index nodes j; to = (edge_at edges (slice_index steps 0)).from })
    → IsCycle edges nodes
round edges nodes steps n some from linked last =
    cycle_of edges nodes (λ e. some (omega (arith, n, e)))
    (λ i lt. same_edge edges _ _ _ _ (let e : slice_index nodes i ≡ slice_index nodes i = cc in e)
    (from (i + 1) (omega (arith, n, lt))) (linked i (omega (arith, n, lt)) (omega (arith, n, lt))))
    (let end : length nodes - 1 < length steps = omega (arith, n, some) in
    same_edge edges _ _ _ _ (let e : slice_index nodes (length nodes - 1) ≡ slice_index nodes (length nodes - 1) =
    cc in e)
    (from 0 (omega (arith, some))) (last (length nodes - 1) end (omega (arith, n, some))))
