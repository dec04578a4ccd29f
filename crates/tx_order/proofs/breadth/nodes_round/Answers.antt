-- One edge more, and at the end the round is closed.
use Rattle.std.proofs.Common.{◌≡◌, ◌+◌, ◌<◌, ◌≤◌, length, arith, refl, ◌∙◌, Contains, slice_index}
use Rattle.std.proofs.lemmas.Grind.{common_steps}
use Rattle.tx_order.specs.Search.{edge_at}
use Rattle.tx_order.proofs.Rounds.{noted, joins_at, round}
use Rattle.tx_order.proofs.breadth.nodes_round.Goals as goal

pub loop-i-preserved : goal.loop-i-preserved
loop-i-preserved c =
    let edges = c.args.edges.now in
    let steps = c.args.steps.now in
    let i = c.loop-i.i in
    let s = slice_index steps i in
    let next = c.next_of-next.result in
    let items = c.in_ok-push.ensures.items in
    let inv = c.loop-i.invariant in
    let lt : s < length edges = omega (arith, c.if-step-edges.false) in
    let same : (edge_at edges s).to ≡ (edge_at edges next).from = c.if-edge-after.false in
    record {
      len = grind (arith, common_steps, items, inv.len);
      from = noted (λ j x. x ≡ (edge_at edges (slice_index steps j)).from) _ _ _ i items inv.len inv.from refl;
      linked = noted (λ j x. j + 1 < length steps
          → Contains edges record { from = x; to = (edge_at edges (slice_index steps (j + 1))).from })
          _ _ _ i items inv.len inv.linked (λ more. joins_at edges s next _ lt same (c.next_of-next.ensures.next more));
      last = noted (λ j x. length steps ≤ j + 1
          → Contains edges record { from = x; to = (edge_at edges (slice_index steps 0)).from })
          _ _ _ i items inv.len inv.last (λ end. joins_at edges s next _ lt same (c.next_of-next.ensures.first end));
    }

pub returns : goal.returns
returns c some =
    let inv = c.loop-i.invariant in
    let steps = c.args.steps.now in
    let all : c.loop-i.i ≡ length steps = omega arith in
    let n : length c.loop-i.nodes.items ≡ length steps = inv.len ∙ all in
    round c.args.edges.now c.loop-i.nodes.items steps n some
    (λ j lt. inv.from j (omega (arith, lt, all)))
    (λ j lt more. inv.linked j (omega (arith, lt, all)) more)
    (λ j lt end. inv.last j (omega (arith, lt, all)) end)
