-- What is met is finished where nothing is on the path.
use Rattle.std.proofs.Common.{◌≡◌, ◌≢◌, ℕ, List, length, arith, refl}
use Rattle.tx_order.specs.declared.graph.Edge.{Edge}
use Rattle.tx_order.specs.declared.search.Mark.{Mark}
use Rattle.tx_order.specs.declared.search.Mark.TheVariants.{Unseen, Open, Done}
use Rattle.tx_order.specs.declared.search.Frame.{Frame}
use Rattle.tx_order.specs.Search.{mark_of, IsSearch}

done_by : (edges : List Edge) (marks : List Mark) (path : List Frame) (done v : ℕ) (m : Mark)
    → IsSearch edges marks path done
    → length path ≡ 0 → mark_of marks v ≡ m → m ≢ Unseen → (f : ℕ) × (mark_of marks v ≡ Done f)
done_by edges marks path done v Unseen search empty is ne = absurd (ne refl)
done_by edges marks path done v (Open p) search empty is ne =
    absurd (let lt = (search.path_is.opened v p is).0 in omega (arith, lt, empty))
done_by edges marks path done v (Done f) search empty is ne = (f, is)

pub all_done : (edges : List Edge) (marks : List Mark) (path : List Frame) (done v : ℕ) → IsSearch edges marks path done
    → length path ≡ 0 → mark_of marks v ≢ Unseen → (f : ℕ) × (mark_of marks v ≡ Done f)
all_done edges marks path done v search empty ne =
    done_by edges marks path done v (mark_of marks v) search empty refl ne
