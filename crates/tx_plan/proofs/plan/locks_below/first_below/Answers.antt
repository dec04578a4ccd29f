use Rattle.std.proofs.Common.{rules, ◌≡◌, ◌<◌, refl, ap, ◌∙◌}
use Rattle.std.specs.Prelude.{MatchOption, Option}
use Rattle.tx_types.specs.declared.key.Key.{Key}
use Rattle.tx_types.specs.declared.lock.LockInfo.{LockInfo}
use Rattle.tx_plan.specs.Cells.{Cells}
use Rattle.tx_plan.specs.Views.{info_on}
use Rattle.tx_plan.specs.cases.Collect.{SomeLockBelow, IsFirstBelow}
use Rattle.tx_plan.proofs.Orders.{if_ok}
use Rattle.tx_plan.proofs.LockRows.{walk_stands, next_lock, no_next, none_of_walk, step_first}
use Rattle.tx_plan.proofs.plan.locks_below.first_below.Goals as goal

pub locks-init : goal.locks-init
locks-init g c = record {
  same = refl;
  there =
      walk_stands (g.L.LockWalk.cells c.args.walk) (g.L.LockWalk.rest c.args.walk) c.requires;
  told = refl;
}

pub returns-then-lt-clause-first : goal.returns-then-lt-clause-first
returns-then-lt-clause-first g c =
    let cells = g.L.LockWalk.cells c.args.walk in
    let rows = g.L.LockWalk.rest c.locks.walk in
    let rest = g.L.LockWalk.rest c.next.new.self in
    let k = c.in-Some.key in
    let next = next_lock rows rest c.in_ok-key.field-0 k c.in-Some.lock c.in_ok-key.ensures.next c.in-Some.is in
    let same : g.L.LockWalk.cells c.next.new.self ≡ cells = c.in_ok-key.ensures.same ∙ c.locks.invariant.same in
    let below : c.in-Some.lock.start < c.args.safe = search rules in
    if_ok (λ (info : Option LockInfo). info
    ≡ info_on (g.L.LockWalk.cells c.next.new.self k) k)
    (λ (info : Option LockInfo). MatchOption info (SomeLockBelow cells c.args.safe
    → ⊥) (λ i. IsFirstBelow cells c.args.safe i)) c.lock_info.result
    (λ info is. step_first cells c.args.safe rows rest (g.L.LockWalk.rest c.args.walk) k c.in-Some.lock info c.requires
    c.locks.invariant.there c.locks.invariant.told next below (is ∙ ap (λ (f : Key → Cells). info_on (f k) k) same))
    c.lock_info.ensures.info

pub returns-clause-first : goal.returns-clause-first
returns-clause-first g c =
    let cells = g.L.LockWalk.cells c.args.walk in
    let rows = g.L.LockWalk.rest c.locks.walk in
    let ended = no_next rows (g.L.LockWalk.rest c.next.new.self) c.in_ok-key.field-0 c.in_ok-key.ensures.next
    c.in_default.is in
    none_of_walk cells c.args.safe rows (g.L.LockWalk.rest c.args.walk) c.requires c.locks.invariant.told ended
