-- The places of finished nodes are an order.
use Rattle.std.proofs.Common.{◌≡◌, ℕ, ◌-◌, ◌<◌, List, length, get_or, map, arith, sym, ap, ◌∙◌}
use Rattle.std.proofs.lemmas.List.{get_or-map, length-map}
use Rattle.std.proofs.lemmas.List.Elements.{All-get_or, All-from_get_or}
use Rattle.tx_order.specs.declared.graph.Edge.{Edge}
use Rattle.tx_order.specs.declared.search.Mark.{Mark}
use Rattle.tx_order.specs.declared.search.Mark.TheVariants.{Unseen, Done}
use Rattle.tx_order.specs.declared.search.Frame.{Frame}
use Rattle.tx_order.specs.Graphs.{AreWithin, IsOrder}
use Rattle.tx_order.specs.Search.{edge_at, mark_of, IsSearch, place_in}

place_done : (marks : List Mark) (done v f : ℕ) → v < length marks → mark_of marks v ≡ Done f
    → get_or (map (place_in done) marks) v 0 ≡ done - f
place_done marks done v f h is = get_or-map (place_in done) marks v Unseen 0 h ∙ ap (place_in done) is

falls : (d f g p q : ℕ) → g < f → f < d → p ≡ d - f → q ≡ d - g → p < q
falls d f g p q lt below is so = omega arith

same_number : (d f g : ℕ) → f < d → g < d → d - f ≡ d - g → f ≡ g
same_number d f g lt also is = omega arith

-- all nodes are finished
abbrev pub AllDone : ℕ → List Mark → Type 0
AllDone n marks = (v : ℕ) → v < n → (f : ℕ) × (mark_of marks v ≡ Done f)

rises_at : (n : ℕ) (edges : List Edge) (marks : List Mark) (path : List Frame) (done : ℕ) → AreWithin n edges
    → IsSearch edges marks path done → length marks ≡ n → AllDone n marks → (e : ℕ) → e < length edges
    → get_or (map (place_in done) marks) (edge_at edges e).from 0 < get_or (map (place_in done) marks)
    (edge_at edges e).to 0
rises_at n edges marks path done within search len all e h =
    let both = All-get_or (λ (edge : Edge). (edge.from < n) × (edge.to < n)) edges e record { from = 0; to = 0 } h
    within in
    let (f, is) = all (edge_at edges e).from both.0 in
    let (g, lt, so) = search.finishes.leads e f h is in
    let a = place_done marks done (edge_at edges e).from f (omega (arith, len, both.0)) is in
    let b = place_done marks done (edge_at edges e).to g (omega (arith, len, both.1)) so in
    falls done f g _ _ lt (search.finishes.below _ f is) a b

distinct_at : (n : ℕ) (edges : List Edge) (marks : List Mark) (path : List Frame) (done : ℕ)
    → IsSearch edges marks path done → length marks ≡ n → AllDone n marks → (a b : ℕ) → a < n → b < n
    → get_or (map (place_in done) marks) a 0 ≡ get_or (map (place_in done) marks) b 0 → a ≡ b
distinct_at n edges marks path done search len all a b h k same =
    let (f, is) = all a h in
    let (g, so) = all b k in
    let p = place_done marks done a f (omega (arith, len, h)) is in
    let q = place_done marks done b g (omega (arith, len, k)) so in
    let below = search.finishes.below in
    let e : f ≡ g = same_number done f g (below a f is) (below b g so) (sym p ∙ same ∙ q) in
    search.finishes.distinct a b g (is ∙ ap Done e) so

pub ordered : (n : ℕ) (edges : List Edge) (marks : List Mark) (path : List Frame) (done : ℕ) → AreWithin n edges
    → IsSearch edges marks path done → length marks ≡ n → AllDone n marks
    → IsOrder n edges (map (place_in done) marks)
ordered n edges marks path done within search len all = record {
  each = length-map marks (place_in done) ∙ len;
  rises = All-from_get_or
      (λ (edge : Edge). get_or (map (place_in done) marks) edge.from 0 < get_or (map (place_in done) marks) edge.to 0)
      edges record { from = 0; to = 0 }
      (rises_at n edges marks path done within search len all);
  distinct = distinct_at n edges marks path done search len all;
}
