-- An edge from the last node on the path back to a node of it.
use Rattle.std.proofs.Common.{◌≡◌, ℕ, ◌<◌, List, length, get_or, arith, Contains, sym, ap, ◌∙◌, subst, Some}
use Rattle.std.proofs.lemmas.List.Elements.{Contains-get_or, All-get_or}
use Rattle.std.proofs.lemmas.List.{get_or_default}
use Rattle.tx_order.specs.declared.graph.Edge.{Edge}
use Rattle.tx_order.specs.declared.search.Mark.{Mark}
use Rattle.tx_order.specs.declared.search.Mark.TheVariants.{Unseen, Open}
use Rattle.tx_order.specs.declared.search.Frame.{Frame}
use Rattle.tx_order.specs.Graphs.{AreWithin}
use Rattle.tx_order.specs.Search.{edge_at, mark_of, node_at, top_of, IsSearch}

pub has_edge : (edges : List Edge) (e a b : ℕ) → e < length edges → edge_at edges e ≡ record { from = a; to = b }
    → Contains edges record { from = a; to = b }
has_edge edges e a b h is = subst (Contains edges) is (Contains-get_or edges e record { from = 0; to = 0 } h)

pub closes : (edges : List Edge) (marks : List Mark) (path : List Frame) (done to place p : ℕ)
    → IsSearch edges marks path done → (top_of path).next < length edges
    → edge_at edges (top_of path).next ≡ record { from = (top_of path).node; to = to }
    → mark_of marks to ≡ Open place → Some place ≡ Some p
    → (p < length path) × Contains edges record { from = (top_of path).node; to = node_at path p }
closes edges marks path done to place p search h is mark same =
    let at : place ≡ p = grind (arith, same) in
    let (lt, node) = search.path_is.opened to place mark in (
      subst (λ q. q < length path) at lt,
      subst (λ q. Contains edges record { from = (top_of path).node; to = q }) (sym node ∙ ap (node_at path) at)
          (has_edge edges (top_of path).next (top_of path).node to h is),
    )

pub within_at : (n : ℕ) (edges : List Edge) (e a b : ℕ) → AreWithin n edges → e < length edges
    → edge_at edges e ≡ record { from = a; to = b } → b < n
within_at n edges e a b within h is =
    let both = All-get_or (λ (edge : Edge). (edge.from < n) × (edge.to < n)) edges e record { from = 0; to = 0 } h
    within in
    subst (λ (edge : Edge). edge.to < n) is both.1

pub mark_read : (marks : List Mark) (v : ℕ) (m n : Mark) → v < length marks → m ≡ get_or marks v m → m ≡ n
    → mark_of marks v ≡ n
mark_read marks v m n h read is = get_or_default marks v Unseen m h ∙ sym read ∙ is
