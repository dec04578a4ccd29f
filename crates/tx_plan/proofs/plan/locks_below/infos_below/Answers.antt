use Rattle.std.proofs.Common.{rules, ◌≡◌, ◌<◌, ◌≤◌, Some, refl, sym, subst, ◌∙◌}
use Rattle.tx_plan.specs.Cells.{info_of}
use Rattle.tx_plan.specs.cases.LocksBelow.{AllBelow}
use Rattle.tx_plan.proofs.LockRows.{walk_stands, next_lock, no_next, rest_stands, told_of_next, told_below, told_all, told_end, step_told, step_same}
use Rattle.tx_plan.proofs.plan.locks_below.infos_below.Goals as goal
use Rattle.tx_plan.proofs.plan.locks_below.infos_below.Goals.{then-lt+in_ok-info+in-Some-2+in_ok-push, then-lt+in_ok-info+in_default-2, else-lt}

pub locks-init : goal.locks-init
locks-init g c = record {
  same = refl;
  there =
      walk_stands (g.L.LockWalk.cells c.args.walk) (g.L.LockWalk.rest c.args.walk) c.requires;
  told =
      rw c.new-infos.ensures refl;
}

pub locks-preserved : goal.locks-preserved
locks-preserved g c =
    let cells = g.L.LockWalk.cells c.args.walk in
    let safe = c.args.safe in
    let rows = g.L.LockWalk.rest c.locks.walk in
    let rest = g.L.LockWalk.rest c.next.new.self in
    let all = told_below safe (g.L.LockWalk.rest c.args.walk) in
    let k = c.in-Some.key in
    let head = c.in-Some.lock in
    let i = c.locks.invariant in
    let next = next_lock rows rest c.in_ok-key.field-0 k head c.in_ok-key.ensures.next c.in-Some.is in
    let same : g.L.LockWalk.cells c.next.new.self ≡ cells = c.in_ok-key.ensures.same ∙ i.same in
    record {
      same = same;
      there = rest_stands cells rows rest k head next i.there;
      told = elim c.if-lt.branch [
        | then-lt+in_ok-info+in-Some-2+in_ok-push w ↦
            (let below : head.start < safe = search rules in
            let told : w.in_ok-info.field-0 ≡ Some (info_of k next.lock) =
            told_of_next cells (g.L.LockWalk.cells c.next.new.self) rows rest k head w.in_ok-info.field-0 next
            i.there same w.in_ok-info.ensures.info in
            let info : w.in-Some-2.info ≡ info_of k next.lock = (cc (w.in-Some-2.is, told)) in
            rw (
              w.infos-is,
              w.in_ok-push.ensures.ok,
              info,
            ) (step_told cells safe rows rest k head c.locks.infos all next i.told below))
        | then-lt+in_ok-info+in_default-2 w ↦
            (let told : w.in_ok-info.field-0 ≡ Some (info_of k next.lock) =
            told_of_next cells (g.L.LockWalk.cells c.next.new.self) rows rest k head w.in_ok-info.field-0 next
            i.there same w.in_ok-info.ensures.info in
            absurd (cc (w.in_default-2.is, told)))
        | else-lt w ↦
            (let above : safe ≤ head.start = search rules in
            rw w.infos-is (step_same cells safe rows rest k head c.locks.infos all next i.told above))
      ];
    }

pub returns-clause-all : goal.returns-clause-all
returns-clause-all g c =
    let cells = g.L.LockWalk.cells c.args.walk in
    let rows = g.L.LockWalk.rest c.locks.walk in
    let all = g.L.LockWalk.rest c.args.walk in
    let ended = no_next rows (g.L.LockWalk.rest c.next.new.self) c.in_ok-key.field-0 c.in_ok-key.ensures.next
    c.in_default.is in
    let told = told_end c.args.safe rows c.locks.infos (told_below c.args.safe all) c.locks.invariant.told ended in
    subst (AllBelow cells c.args.safe) (sym told) (told_all cells c.args.safe all c.requires)
