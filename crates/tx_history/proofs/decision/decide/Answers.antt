-- The places in the order are timestamps.
use Rattle.std.proofs.Common.{◌≡◌, ℕ, ◌+◌, ◌*◌, ◌<◌, arith, ap, sym, ◌∙◌, subst, slice_index}
use Rattle.std.proofs.lemmas.List.Sorted.{IsPermutation-sym}
use Rattle.tx_order.specs.Graphs.{IsCycle}
use Rattle.tx_order.specs.Unordered.{IsUnordered}
use Rattle.tx_order.proofs.Permuted.{within-permutation, cycle-permutation}
use Rattle.tx_history.specs.Records.{history_of}
use Rattle.tx_history.proofs.Within.{graph_within, are_written}
use Rattle.tx_history.proofs.decision.decide.Goals as goal

pub order-requires : goal.order-requires
order-requires c = graph_within c.args.recorded.now c.in_ok-graph.graph.items c.requires c.in_ok-graph.ensures.graph

pub shorten-requires : goal.shorten-requires
shorten-requires c =
    let r = c.args.recorded.now in
    within-permutation (2 * r.txns) _ _ c.in-Err-Cycle.ensures.same
    (graph_within r c.in_ok-graph.graph.items c.requires c.in_ok-graph.ensures.graph)

pub returns-in-Err-Cycle : goal.returns-in-Err-Cycle
returns-in-Err-Cycle c =
    let r = c.args.recorded.now in
    let edges = c.in_ok-graph.graph.items in
    let sorted = c.order.new.edges.items in
    let nodes = c.in-Err-Cycle.nodes.items in
    let least = c.in_ok-least-in-Err-Cycle.least.items in
    let moved = c.in-Err-Cycle.ensures.same in
    let graph = c.in_ok-graph.ensures.graph in
    let found : IsCycle edges nodes = subst (IsUnordered edges) c.in-Err-Cycle.field-0-is c.in-Err-Cycle.ensures.err in
    let there : IsCycle sorted nodes =
    cycle-permutation sorted edges nodes (IsPermutation-sym edges sorted moved) found in
    let short : IsCycle sorted least = c.in_ok-least-in-Err-Cycle.ensures.cycle
    (subst (IsCycle sorted) (sym c.as_slice-in-Err-Cycle.ensures.value) there) in
    let back : IsCycle edges least = cycle-permutation edges sorted least moved short in
    ((edges, graph, back), λ s t a. c.cycles_refuse_assignments.ensures (history_of r) edges least s t graph back a)

-- what is asked of starts and commits, by their places in the order
pub returns-in-Ok : goal.returns-in-Ok
returns-in-Ok c =
    let r = c.args.recorded.now in
    let edges = c.in_ok-graph.graph.items in
    let places = c.in-Ok.places.items in
    let order = c.in-Ok.ensures.ok in
    let start : (t : ℕ) → t < r.txns → slice_index c.in_ok-starts-in-Ok.starts.items t ≡ slice_index places (2 * t) =
    λ t lt. c.in_ok-starts-in-Ok.ensures.each t lt ∙ ap (λ xs. slice_index xs (2 * t + 0)) c.as_slice.ensures.value
    ∙ ap (slice_index places) (let e : 2 * t + 0 ≡ 2 * t = omega arith in e) in
    let commit : (t : ℕ) → t < r.txns
    → slice_index c.in_ok-commits-in-Ok.commits.items t ≡ slice_index places (2 * t + 1) =
    λ t lt. c.in_ok-commits-in-Ok.ensures.each t lt
    ∙ ap (λ xs. slice_index xs (2 * t + 1)) c.as_slice-in-Ok.ensures.value in
    record {
      assigned = c.orders_are_timestamps.ensures (history_of r) edges places
          c.in_ok-starts-in-Ok.starts.items c.in_ok-commits-in-Ok.commits.items (are_written r c.requires)
          c.in_ok-graph.ensures.graph (graph_within r edges c.requires c.in_ok-graph.ensures.graph) order start commit;
      start_each = c.in_ok-starts-in-Ok.ensures.count;
      commit_each = c.in_ok-commits-in-Ok.ensures.count;
      distinct = λ t u lt less same. (
          let twice : 2 * t ≡ 2 * u = order.distinct (2 * t) (2 * u) (omega (arith, lt)) (omega (arith, less))
          (sym (start t lt) ∙ same ∙ start u less) in
          omega (arith, twice));
    }
