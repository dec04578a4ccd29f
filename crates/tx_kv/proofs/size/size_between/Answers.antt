use Rattle.std.proofs.Common.{◌≡◌, ◌++◌, ℕ, List, IsTrue, refl, rules, sym, subst, ◌∙◌}
use Rattle.tx_types.specs.declared.mutation.KeyValue.{KeyValue}
use Rattle.tx_types.specs.Keys.{is_scanned, key_le, key_lt}
use Rattle.tx_plan.proofs.KeyOrder.{ge_false, ge_true, lt_le}
use Rattle.tx_core.specs.Histories.{last}
use Rattle.tx_laws.specs.Rows.{AreRowsOf}
use Rattle.tx_reader.proofs.Observers.{sees_begins, sees_itself, sees_more}
use Rattle.tx_update.specs.Reads.{SeesOn}
use Rattle.tx_update.proofs.Ranges.{sees_later}
use Rattle.tx_kv.specs.Sizes.{size_of}
use Rattle.tx_kv.specs.Views.{IsViewStop}
use Rattle.tx_kv.proofs.Sizes.{all_sized, later_sized, more_sized, none_sized}
use Rattle.tx_kv.proofs.Views.{stops_less}
use Rattle.tx_kv.proofs.size.size_between.Goals as goal

pub returns-in_err-next-clause-seat : goal.returns-in_err-next-clause-seat
returns-in_err-next-clause-seat g c = sees_itself c.args.reader.now.seat

pub loop-init : goal.loop-init
loop-init g c =
    let told = SeesOn g.J.JournalId.bounds c.args.reader.now.seat.events c.args.reader.now.at in (
      refl,
      sees_itself c.args.reader.now.seat,
      none_sized told c.args.from.now c.args.to.now c.zero-size.result c.zero-size.ensures c.in_ok-next.next
          c.in_ok-next.ensures.ok,
    )

pub returns-then-ge-clause-finds : goal.returns-then-ge-clause-finds
returns-then-ge-clause-finds g c =
    let upto : IsTrue (key_le c.args.to.now c.loop.next) =
    ge_true c.loop.next c.args.to.now (sym c.ge.ensures ∙ c.if-ge.true) in
    all_sized (SeesOn g.J.JournalId.bounds c.loop.reader.seat.events c.args.reader.now.at) c.args.from.now
    c.args.to.now c.loop.next c.loop.size c.loop.invariant.2 upto

pub returns-in_err-part-clause-seat : goal.returns-in_err-part-clause-seat
returns-in_err-part-clause-seat g c =
    sees_more c.args.reader.now.seat c.loop.reader.seat c.page.new.reader.seat c.loop.invariant.1 c.page.ensures.seat

pub returns-in_err-part-clause-err : goal.returns-in_err-part-clause-err
returns-in_err-part-clause-err g c =
    let events = c.page.new.reader.seat.events in
    let seen = last c.args.reader.now.seat.events in
    let at = c.args.reader.now.at in
    let why : IsViewStop events seen at c.in_err-part.field-0.0 =
    subst (λ (n : ℕ). IsViewStop events seen n c.in_err-part.field-0.0) c.loop.invariant.0
    (stops_less events seen (last c.loop.reader.seat.events) c.loop.reader.at c.loop.invariant.1.drawn
    c.in_err-part.field-0.0 c.in_err-part.ensures.err) in
    search rules

pub loop-preserved : goal.loop-preserved
loop-preserved g c =
    let bounds = g.J.JournalId.bounds in
    let at = c.args.reader.now.at in
    let before = c.loop.reader.seat.events in
    let events = c.page.new.reader.seat.events in
    let told = SeesOn bounds events at in
    let from = c.args.from.now in
    let to = c.args.to.now in
    let part = c.in_ok-part.part in
    let front = c.split_page-more.result.0.items in
    let below : IsTrue (key_lt c.loop.next to) = ge_false c.loop.next to (sym c.ge.ensures ∙ c.if-ge.false) in
    let begins = sees_begins c.loop.reader.seat c.page.new.reader.seat c.page.ensures.seat in
    let so_far = later_sized (SeesOn bounds before at) told
    (λ k o sees. sees_later bounds before events at begins k o sees) from to c.loop.next c.loop.size
    c.loop.invariant.2 in
    let page = subst
    (λ (n : ℕ). AreRowsOf (is_scanned c.loop.next part.1 1024 part.0) (SeesOn bounds events n) part.0)
    c.loop.invariant.0
    c.in_ok-part.ensures.finds in
    let slice : c.as_slice.result.now ≡ front = search rules in
    let grown : (rows : List KeyValue) → c.loop.size ≡ size_of rows
    → c.with_rows-size.result ≡ size_of (rows ++ front) =
    λ rows is. subst (λ (more : List KeyValue). c.with_rows-size.result ≡ size_of (rows ++ more)) slice
    (c.with_rows-size.ensures rows is) in (
      c.page.ensures.at ∙ c.loop.invariant.0,
      sees_more c.args.reader.now.seat c.loop.reader.seat c.page.new.reader.seat c.loop.invariant.1 c.page.ensures.seat,
      more_sized told from to 1024 c.loop.next part.1 c.split_page-more.result.1 part.0 front c.loop.size
          c.with_rows-size.result so_far (lt_le c.loop.next part.1 (c.in_ok-part.ensures.some below))
          c.in_ok-part.ensures.upto page c.split_page-more.ensures grown,
    )
