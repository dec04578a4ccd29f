-- The nodes of the path, from one to which an edge of the last leads, are a cycle.
use Rattle.std.proofs.Common.{◌≡◌, ◌≢◌, ℕ, ◌+◌, ◌-◌, ◌<◌, List, [], ◌∷◌, length, get_or, map, drop, arith, refl, sym, ap, ◌∙◌, Contains}
use Rattle.std.proofs.lemmas.List.{get_or-map, length-map, get_or-drop, length-drop}
use Rattle.std.proofs.lemmas.Grind.{common_steps}
use Rattle.tx_order.specs.declared.graph.Edge.{Edge}
use Rattle.tx_order.specs.declared.search.Mark.{Mark}
use Rattle.tx_order.specs.declared.search.Frame.{Frame}
use Rattle.tx_order.specs.Graphs.{IsWalk, IsCycle}
use Rattle.tx_order.specs.Search.{node_at, top_of, IsSearch}
use Rattle.tx_order.proofs.Marks.{same_edge}

-- each of these nodes has an edge to the next
abbrev pub AreLinked : List Edge → List ℕ → Type 0
AreLinked edges xs = (i : ℕ) → i + 1 < length xs
    → Contains edges record { from = get_or xs i 0; to = get_or xs (i + 1) 0 }

cons_at : (x : ℕ) (xs : List ℕ) (i : ℕ) → get_or (x ∷ xs) (i + 1) 0 ≡ get_or xs i 0
cons_at x xs i = grind (arith, common_steps)

one_longer : (x : ℕ) (xs : List ℕ) (i : ℕ) → i < length xs → i + 1 < length (x ∷ xs)
one_longer x xs i h = omega arith

more_than_one : (x y : ℕ) (ys : List ℕ) → 0 + 1 < length (x ∷ y ∷ ys)
more_than_one x y ys = omega arith

walk_of : (edges : List Edge) (x : ℕ) (xs : List ℕ) (b : ℕ) → AreLinked edges (x ∷ xs)
    → Contains edges record { from = get_or (x ∷ xs) (length xs) 0; to = b } → IsWalk edges x xs b
walk_of edges x [] b linked back = back
walk_of edges x (y ∷ ys) b linked back = (
  linked 0 (more_than_one x y ys),
  walk_of edges y ys b
      (λ i h. same_edge edges _ _ _ _ (sym (cons_at x (y ∷ ys) i)) (sym (cons_at x (y ∷ ys) (i + 1)))
      (linked (i + 1) (one_longer x (y ∷ ys) (i + 1) h)))
      back,
)

pub cycle_of : (edges : List Edge) (xs : List ℕ) → length xs ≢ 0 → AreLinked edges xs
    → Contains edges record { from = get_or xs (length xs - 1) 0; to = get_or xs 0 0 } → IsCycle edges xs
cycle_of edges [] some linked back = some refl
cycle_of edges (x ∷ xs) some linked back = walk_of edges x xs x linked
    (let last : length xs ≡ length (x ∷ xs) - 1 = omega arith in
    same_edge edges _ _ _ _ (ap (λ i. get_or (x ∷ xs) i 0) last) refl back)

-- the nodes of the path from a place on
abbrev pub nodes_from : List Frame → ℕ → List ℕ
nodes_from path place = map (λ (f : Frame). f.node) (drop place path)

node_from : (path : List Frame) (place i : ℕ) → place + i < length path
    → get_or (nodes_from path place) i 0 ≡ node_at path (place + i)
node_from path place i h =
    get_or-map (λ (f : Frame). f.node) (drop place path) i record { node = 0; next = 0 } 0
    (let n = length-drop place path in omega (arith, n, h))
    ∙ ap (λ (f : Frame). f.node) (get_or-drop place path i record { node = 0; next = 0 })

length_from : (path : List Frame) (place : ℕ) → length (nodes_from path place) ≡ length path - place
length_from path place = length-map (drop place path) (λ (f : Frame). f.node) ∙ length-drop place path

pub closed : (edges : List Edge) (marks : List Mark) (path : List Frame) (done place : ℕ)
    → IsSearch edges marks path done
    → place < length path → Contains edges record { from = (top_of path).node; to = node_at path place }
    → IsCycle edges (nodes_from path place)
closed edges marks path done place search h back =
    let n = length_from path place in
    cycle_of edges (nodes_from path place) (λ e. omega (arith, n, h, e))
    (λ i lt. same_edge edges _ _ _ _ (node_from path place i (omega (arith, n, lt)))
    (node_from path place (i + 1) (omega (arith, n, lt)) ∙ ap (node_at path) (omega arith))
    (search.path_is.linked (place + i) (omega (arith, n, lt))))
    (same_edge edges _ _ _ _
    (node_from path place _ (omega (arith, n, h)) ∙ ap (node_at path) (omega (arith, n, h)))
    (node_from path place 0 (omega (arith, h)) ∙ ap (node_at path) (omega arith)) back)
