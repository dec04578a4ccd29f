-- What is said of edges is said of them in any order.
use Rattle.std.proofs.Common.{ℕ, ◌<◌, List, [], ◌∷◌}
use Rattle.std.specs.List.Sorted.{IsPermutation}
use Rattle.std.specs.List.{slice_index}
use Rattle.std.proofs.lemmas.List.Sorted.{All-permutation, Contains-permutation, IsPermutation-sym}
use Rattle.tx_order.specs.declared.graph.Edge.{Edge}
use Rattle.tx_order.specs.declared.unordered.Unordered.{Unordered}
use Rattle.tx_order.specs.declared.unordered.Unordered.TheVariants.{Cycle, Memory}
use Rattle.tx_order.specs.Graphs.{AreWithin, IsOrder, IsWalk, IsCycle}
use Rattle.tx_order.specs.Unordered.{IsUnordered}

pub within-permutation : (n : ℕ) (xs ys : List Edge) → IsPermutation xs ys → AreWithin n xs → AreWithin n ys
within-permutation n xs ys p h = All-permutation (λ (edge : Edge). (edge.from < n) × (edge.to < n)) xs ys p h

pub order-permutation : (n : ℕ) (xs ys : List Edge) (places : List ℕ) → IsPermutation xs ys → IsOrder n ys places
    → IsOrder n xs places
order-permutation n xs ys places p h = record {
  each = h.each;
  rises = All-permutation (λ (edge : Edge). slice_index places edge.from < slice_index places edge.to) ys xs
      (IsPermutation-sym xs ys p) h.rises;
  distinct = h.distinct;
}

walk-permutation : (xs ys : List Edge) (a : ℕ) (walk : List ℕ) (b : ℕ) → IsPermutation xs ys → IsWalk ys a walk b
    → IsWalk xs a walk b
walk-permutation xs ys a [] b p h = Contains-permutation ys xs record { from = a; to = b } (IsPermutation-sym xs ys p) h
walk-permutation xs ys a (x ∷ walk) b p h = (
  Contains-permutation ys xs record { from = a; to = x } (IsPermutation-sym xs ys p) h.0,
  walk-permutation xs ys x walk b p h.1,
)

pub cycle-permutation : (xs ys : List Edge) (nodes : List ℕ) → IsPermutation xs ys → IsCycle ys nodes → IsCycle xs nodes
cycle-permutation xs ys [] p h = h
cycle-permutation xs ys (x ∷ nodes) p h = walk-permutation xs ys x nodes x p h

pub unordered-permutation : (xs ys : List Edge) (e : Unordered) → IsPermutation xs ys → IsUnordered ys e
    → IsUnordered xs e
unordered-permutation xs ys (Cycle nodes) p h = cycle-permutation xs ys nodes.items p h
unordered-permutation xs ys Memory p h = tt
