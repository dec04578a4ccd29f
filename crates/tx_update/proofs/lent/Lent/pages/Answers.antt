use Rattle.std.proofs.Common.{IsTrue, refl, sym, subst, ◌∙◌}
use Rattle.std.proofs.Common.{List, []}
use Rattle.tx_types.specs.declared.key.Key.{Key}
use Rattle.tx_types.specs.declared.mutation.KeyValue.{KeyValue}
use Rattle.tx_types.specs.Keys.{key_le, key_lt}
use Rattle.tx_plan.proofs.KeyOrder.{ge_false, ge_true, le_itself, lt_le}
use Rattle.tx_core.proofs.seats.Beginnings.{begins_all, begins_more}
use Rattle.tx_update.specs.Ranges.{IsSplit}
use Rattle.tx_update.specs.Reads.{SeesOn}
use Rattle.tx_update.proofs.Pages.{AreSoFar, all_so_far, later_so_far, more_so_far, none_so_far}
use Rattle.tx_update.proofs.Ranges.{sees_later}
use Rattle.tx_update.proofs.lent.Lent.pages.Goals as goal

pub returns-in_err-next-clause-more : goal.returns-in_err-next-clause-more
returns-in_err-next-clause-more g c = begins_all c.args.self.now.running.seat.events

pub loop-init : goal.loop-init
loop-init g c =
    let told = SeesOn g.J.JournalId.bounds c.args.self.now.running.seat.events g.B.Begun.session.state.start in (
      refl,
      begins_all c.args.self.now.running.seat.events,
      subst (λ (rows : List KeyValue). AreSoFar told c.args.from.now c.args.to.now c.in_ok-next.next rows)
          (sym c.new-rows.ensures.items)
          (subst (λ (k : Key). AreSoFar told c.args.from.now c.args.to.now k []) (sym c.in_ok-next.ensures.ok)
          (none_so_far told c.args.from.now c.args.to.now)),
    )

pub returns-then-ge-clause-finds : goal.returns-then-ge-clause-finds
returns-then-ge-clause-finds g c =
    let upto : IsTrue (key_le c.args.to.now c.loop.next) =
    ge_true c.loop.next c.args.to.now (sym c.ge.ensures ∙ c.if-ge.true) in
    all_so_far (SeesOn g.J.JournalId.bounds c.loop.self.running.seat.events g.B.Begun.session.state.start)
    c.args.from.now c.args.to.now c.loop.next c.loop.rows.items c.loop.invariant.2 upto

pub returns-in_err-page-clause-more : goal.returns-in_err-page-clause-more
returns-in_err-page-clause-more g c =
    begins_more c.args.self.now.running.seat.events c.loop.self.running.seat.events
    c.look_for.new.self.running.seat.events c.loop.invariant.1 c.look_for.ensures.more

pub returns-in_err-clone-clause-more : goal.returns-in_err-clone-clause-more
returns-in_err-clone-clause-more g c =
    begins_more c.args.self.now.running.seat.events c.loop.self.running.seat.events
    c.look_for.new.self.running.seat.events c.loop.invariant.1 c.look_for.ensures.more

pub returns-in_err-add_rows-clause-more : goal.returns-in_err-add_rows-clause-more
returns-in_err-add_rows-clause-more g c =
    begins_more c.args.self.now.running.seat.events c.loop.self.running.seat.events
    c.look_for.new.self.running.seat.events c.loop.invariant.1 c.look_for.ensures.more

pub loop-preserved : goal.loop-preserved
loop-preserved g c =
    let bounds = g.J.JournalId.bounds in
    let start = g.B.Begun.session.state.start in
    let before = c.loop.self.running.seat.events in
    let events = c.look_for.new.self.running.seat.events in
    let told = SeesOn bounds events start in
    let from = c.args.from.now in
    let to = c.args.to.now in
    let below : IsTrue (key_lt c.loop.next to) = ge_false c.loop.next to (sym c.ge.ensures ∙ c.if-ge.false) in
    let so_far = later_so_far (SeesOn bounds before start) told
    (λ k o sees. sees_later bounds before events start c.look_for.ensures.more k o sees) from to c.loop.next
    c.loop.rows.items c.loop.invariant.2 in
    let split : IsSplit 1024 c.in_ok-page.page to c.split_page-more.result.0.items c.split_page-more.result.1 =
    subst (λ (k : Key). IsSplit 1024 c.in_ok-page.page k c.split_page-more.result.0.items c.split_page-more.result.1)
    c.in_ok-clone.ensures.ok c.split_page-more.ensures in
    let more = more_so_far told from to 1024 c.loop.next to c.split_page-more.result.1 c.loop.rows.items
    c.in_ok-page.page c.split_page-more.result.0.items so_far (lt_le c.loop.next to below) (le_itself to)
    c.in_ok-page.ensures.tells
    split in (
      c.look_for.ensures.same ∙ c.loop.invariant.0,
      begins_more c.args.self.now.running.seat.events before events c.loop.invariant.1 c.look_for.ensures.more,
      subst (λ (rows : List KeyValue). AreSoFar told from to c.split_page-more.result.1 rows)
          (sym c.in_ok-add_rows.ensures.ok) more,
    )
