-- Where the tests turn is what a partition point is.
use Rattle.std.proofs.Common.{◌≡◌, ℕ, ◌<◌, ◌≤◌, List, true, false, nat_lt, arith, rules, length}
use Rattle.std.specs.List.Sorted.{IsPartitionPoint}
use Rattle.std.proofs.lemmas.List.Sorted.{IsPartitionPoint-from_clause, IsPartitionedBy-ltb}
use Rattle.std.proofs.lemmas.Grind.{common_steps}
use Rattle.tx_order.specs.declared.graph.Edge.{Edge}
use Rattle.tx_order.specs.Search.{edge_at}
use Rattle.tx_order.proofs.search.first_edge.Goals as goal

-- what lies before such a point passes the test
before_point : (edges : List Edge) (node i e : ℕ)
    → IsPartitionPoint (λ (x : Edge). nat_lt x.from node ≡ true) (λ (x : Edge). nat_lt x.from node ≡ false) edges i
    → i ≤ length edges → e < i → (edge_at edges e).from < node
before_point edges node i e point within h = grind (arith, common_steps)

pub returns-clause-before : goal.returns-clause-before
returns-clause-before c e h =
    let es = c.args.edges.now in
    let point = IsPartitionPoint-from_clause (λ (x : Edge). nat_lt x.from c.args.node) es
    c.partition_point.result c.partition_point.ensures.partitioned
    (IsPartitionedBy-ltb (λ (x : Edge). x.from) es c.args.node c.requires)
    (λ a r f called. search rules) in
    before_point es c.args.node c.partition_point.result e point c.partition_point.ensures.bound h

ahead_point : (edges : List Edge) (node i e : ℕ)
    → IsPartitionPoint (λ (x : Edge). nat_lt x.from node ≡ true) (λ (x : Edge). nat_lt x.from node ≡ false) edges i
    → i ≤ e → e < length edges → node ≤ (edge_at edges e).from
ahead_point edges node i e point h within = grind (arith, common_steps)

pub returns-clause-ahead : goal.returns-clause-ahead
returns-clause-ahead c e h within =
    let es = c.args.edges.now in
    let point = IsPartitionPoint-from_clause (λ (x : Edge). nat_lt x.from c.args.node) es
    c.partition_point.result c.partition_point.ensures.partitioned
    (IsPartitionedBy-ltb (λ (x : Edge). x.from) es c.args.node c.requires)
    (λ a r f called. search rules) in
    ahead_point es c.args.node c.partition_point.result e point h within
