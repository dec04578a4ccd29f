-- The search once the last node on its path is finished.
use Rattle.std.proofs.Common.{◌≡◌, ◌≢◌, ℕ, ◌<◌, ◌≤◌, length, List, [], ◌∷◌, ◌++◌, slice_set, subst, sym}
use Rattle.tx_order.specs.declared.graph.Edge.{Edge}
use Rattle.tx_order.specs.declared.search.Mark.{Mark}
use Rattle.tx_order.specs.declared.search.Mark.TheVariants.{Done}
use Rattle.tx_order.specs.declared.search.Frame.{Frame}
use Rattle.tx_order.specs.Search.{edge_at, top_of, IsSearch, steps_left}
use Rattle.tx_order.proofs.NodeExits.{Leaves, left, left-smaller, top_push}
use Rattle.tx_order.proofs.search.Search.leave.Goals as goal

-- what is asked, where the path is some nodes and a last one
leaving : (edges : List Edge) (marks : List Mark) (walk path : List Frame) (x : Frame) (done : ℕ)
    → walk ≡ path ++ x ∷ []
    → IsSearch edges marks walk done
    → ((e : ℕ) → (top_of walk).next ≤ e → e < length edges → (edge_at edges e).from ≢ (top_of walk).node)
    → Leaves edges marks path x done
leaving edges marks walk path x done is search ended = record {
  search = subst (λ w. IsSearch edges marks w done) is search;
  ended = (let P : Frame → Type 0 = λ f. (e : ℕ) → f.next ≤ e → e < length edges → (edge_at edges e).from ≢ f.node in
      subst P (top_push path x) (subst (λ w. P (top_of w)) is ended));
}

pub returns-in-Some-clause-search : goal.returns-in-Some-clause-search
returns-in-Some-clause-search c =
    left _ _ _ _ _ (leaving _ _ _ _ _ _ c.in-Some.ensures.items c.requires.search c.requires.ended)

smaller_at : (edges : List Edge) (marks : List Mark) (walk path : List Frame) (x : Frame) (done : ℕ)
    → walk ≡ path ++ x ∷ []
    → Leaves edges marks path x done
    → steps_left edges (slice_set marks x.node (Done done)) path < steps_left edges marks walk
smaller_at edges marks walk path x done is all =
    subst (λ w. steps_left edges (slice_set marks x.node (Done done)) path < steps_left edges marks w) (sym is)
    (left-smaller edges marks path x done all)

pub returns-in-Some-clause-smaller : goal.returns-in-Some-clause-smaller
returns-in-Some-clause-smaller c =
    smaller_at _ _ _ _ _ _ c.in-Some.ensures.items
    (leaving _ _ _ _ _ _ c.in-Some.ensures.items c.requires.search c.requires.ended)
