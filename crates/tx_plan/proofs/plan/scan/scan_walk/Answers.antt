use Rattle.std.proofs.Common.{◌≡◌, ◌<◌, ◌≤◌, refl, sym, subst, ◌∙◌, inl, inr, length}
use Rattle.tx_plan.specs.Views.{IsBlocked}
use Rattle.tx_plan.proofs.KeyOrder.{ge_false, ge_true}
use Rattle.tx_plan.proofs.Orders.{not_true}
use Rattle.tx_plan.proofs.Scans.{Scanned, scan_starts, scan_ends_all, scan_ends_limit, next_key, no_key, step_ends, step_blocked, step_gives, step_skips}
use Rattle.tx_plan.proofs.plan.scan.scan_walk.Goals as goal
use Rattle.tx_plan.proofs.plan.scan.scan_walk.Goals.{else-keys-test, then-keys-test+in_ok-key+in_default, then-keys-test+in_ok-key+in-Some+then-ge}

pub keys-init : goal.keys-init
keys-init g c =
    let cells = g.W.ReadWalk.cells c.args.walk in
    let rest = g.W.ReadWalk.rest c.args.walk in
    record {
      same = refl;
      found =
          subst (Scanned cells c.args.body.now rest) (sym c.new-rows.ensures)
          (scan_starts cells c.args.body.now rest c.requires);
    }

pub returns-then-is_blocked-clause-answer : goal.returns-then-is_blocked-clause-answer
returns-then-is_blocked-clause-answer g c =
    let b = c.args.body.now in
    let cells = g.W.ReadWalk.cells c.args.walk in
    let left = g.W.ReadWalk.rest c.keys.walk in
    let rest = g.W.ReadWalk.rest c.next.new.self in
    let k = c.in-Some.key in
    let view = c.in-Some.view in
    let rows = c.keys.rows in
    let so = c.keys.invariant.found in
    let same : g.W.ReadWalk.cells c.next.new.self ≡ cells = c.in_ok-key.ensures.same ∙ c.keys.invariant.same in
    let next = next_key left rest b.at c.in_ok-key.field-0 k view c.in_ok-key.ensures.next c.in-Some.is in
    let blocks = c.is_blocked.ensures next.cells.lock next.shows.lock in
    let more : length rows < b.limit = subst (λ r. length r < b.limit) c.as_slice.ensures c.keys-test.true in
    let short = ge_false k b.to (sym c.ge.ensures ∙ c.if-ge.false) in
    inl (step_blocked cells b left rest k view rows so next (g.W.ReadWalk.cells c.next.new.self) c.in_ok-info.info
    c.with_lock.result same c.in_ok-info.ensures.info c.with_lock.ensures (blocks.0 c.if-is_blocked.true) short
    more)

pub keys-preserved-in-Continue-branch-4 : goal.keys-preserved-in-Continue-branch-4
keys-preserved-in-Continue-branch-4 g c =
    let b = c.args.body.now in
    let cells = g.W.ReadWalk.cells c.args.walk in
    let left = g.W.ReadWalk.rest c.keys.walk in
    let rest = g.W.ReadWalk.rest c.next.new.self in
    let k = c.in-Some.key in
    let view = c.in-Some.view in
    let rows = c.keys.rows in
    let so = c.keys.invariant.found in
    let same : g.W.ReadWalk.cells c.next.new.self ≡ cells = c.in_ok-key.ensures.same ∙ c.keys.invariant.same in
    let next = next_key left rest b.at c.in_ok-key.field-0 k view c.in_ok-key.ensures.next c.in-Some.is in
    let blocks = c.is_blocked.ensures next.cells.lock next.shows.lock in
    let more : length rows < b.limit = subst (λ r. length r < b.limit) c.as_slice.ensures c.keys-test.true in
    let short = ge_false k b.to (sym c.ge.ensures ∙ c.if-ge.false) in
    let free : IsBlocked next.cells.lock b.at b.bypass → ⊥ =
    λ is. not_true c.is_blocked.result c.if-is_blocked.false (blocks.1 is) in
    record {
      same = same;
      found =
          subst (Scanned cells b rest) (sym c.in_ok-push.ensures.ok)
          (step_gives cells b left rest k view rows so next c.in-Some-value.value c.in-Some-value.is free short more);
    }

pub keys-preserved : goal.keys-preserved
keys-preserved g c =
    let b = c.args.body.now in
    let cells = g.W.ReadWalk.cells c.args.walk in
    let left = g.W.ReadWalk.rest c.keys.walk in
    let rest = g.W.ReadWalk.rest c.next.new.self in
    let k = c.in-Some.key in
    let view = c.in-Some.view in
    let rows = c.keys.rows in
    let so = c.keys.invariant.found in
    let same : g.W.ReadWalk.cells c.next.new.self ≡ cells = c.in_ok-key.ensures.same ∙ c.keys.invariant.same in
    let next = next_key left rest b.at c.in_ok-key.field-0 k view c.in_ok-key.ensures.next c.in-Some.is in
    let blocks = c.is_blocked.ensures next.cells.lock next.shows.lock in
    let free : IsBlocked next.cells.lock b.at b.bypass → ⊥ =
    λ is. not_true c.is_blocked.result c.if-is_blocked.false (blocks.1 is) in
    record { same = same; found = step_skips cells b left rest k view rows so next c.in_default-value.is free }

pub returns-clause-answer : goal.returns-clause-answer
returns-clause-answer g c =
    let b = c.args.body.now in
    let cells = g.W.ReadWalk.cells c.args.walk in
    let left = g.W.ReadWalk.rest c.keys.walk in
    let rows = c.keys.rows in
    let so = c.keys.invariant.found in
    elim c.keys-test.branch [
      | else-keys-test w ↦ inr
          (scan_ends_limit cells b left rows _ so (subst (λ r. b.limit ≤ length r) c.as_slice.ensures w.keys-test.false)
          refl)
      | then-keys-test+in_ok-key+in_default w ↦
          inr (scan_ends_all cells b left rows _ so
          (no_key left (g.W.ReadWalk.rest w.next.new.self) b.at w.in_ok-key.field-0 w.in_ok-key.ensures.next
          w.in_default.is) refl)
      | then-keys-test+in_ok-key+in-Some+then-ge w ↦
          (let rest = g.W.ReadWalk.rest w.next.new.self in
          let next = next_key left rest b.at w.in_ok-key.field-0 w.in-Some.key w.in-Some.view w.in_ok-key.ensures.next
          w.in-Some.is in
          inr (step_ends cells b left rest w.in-Some.key w.in-Some.view rows so next _
          (ge_true w.in-Some.key b.to (sym w.ge.ensures ∙ w.if-ge.true)) refl))
    ]
