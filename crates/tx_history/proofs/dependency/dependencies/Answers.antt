-- Each step round a cycle is an edge, so it has a reason.
use Rattle.std.proofs.Common.{◌<◌, length, arith, sym, subst, slice_index, IfSome, IfNone}
use Rattle.std.proofs.lemmas.Grind.{common_steps}
use Rattle.tx_history.specs.declared.dependency.Dependency.{Dependency}
use Rattle.tx_history.specs.Records.{history_of}
use Rattle.tx_history.specs.Graph.{IsEdge}
use Rattle.tx_history.specs.Dependencies.{IsDependency, next_of}
use Rattle.tx_history.proofs.Reasons.{cycle_edge, found_more}
use Rattle.tx_history.proofs.dependency.dependencies.Goals as goal

pub unreachable-requires : goal.unreachable-requires
unreachable-requires c =
    let h = history_of c.args.recorded.now in
    let nodes = c.args.nodes.now in
    let i = c.loop-i.i in
    let lt : i < length nodes = omega arith in
    let P : Type 0 = IsEdge h record { from = slice_index nodes i; to = c.next_of.result } → ⊥ in
    let none : P = subst (λ r. IfNone r P) c.in_default.is c.reason.ensures.none in
    none (subst (λ q. IsEdge h record { from = slice_index nodes i; to = q }) (sym c.next_of.ensures)
    (cycle_edge h nodes i c.requires.cycle lt))

pub loop-i-preserved : goal.loop-i-preserved
loop-i-preserved c =
    let h = history_of c.args.recorded.now in
    let nodes = c.args.nodes.now in
    let i = c.loop-i.i in
    let inv = c.loop-i.invariant in
    let step = c.in-Some.step in
    let P : Dependency → Type 0 = λ d. IsDependency h d record { from = slice_index nodes i; to = c.next_of.result } in
    let some : P step = subst (λ r. IfSome r P) c.in-Some.is c.reason.ensures.some in
    record {
      each = grind (arith, common_steps, c.in_ok-push.ensures.items, inv.each);
      holds = found_more (λ j d. IsDependency h d record { from = slice_index nodes j; to = next_of nodes j }) _ _ step
          i
          c.in_ok-push.ensures.items inv.each inv.holds
          (subst (λ q. IsDependency h step record { from = slice_index nodes i; to = q }) c.next_of.ensures some);
    }
