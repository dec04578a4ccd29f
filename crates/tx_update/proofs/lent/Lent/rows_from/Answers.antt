use Rattle.std.proofs.Common.{IsTrue, List, None, Some, sym, subst, ◌∙◌}
use Rattle.tx_types.specs.declared.mutation.KeyValue.{KeyValue}
use Rattle.tx_types.specs.Keys.{key_le}
use Rattle.tx_plan.proofs.KeyOrder.{not_lt}
use Rattle.tx_core.proofs.seats.Beginnings.{begins_all, begins_more}
use Rattle.tx_transaction.specs.Buffers.{Entries, buffered}
use Rattle.tx_laws.specs.Rows.{AreRowsOf}
use Rattle.tx_update.specs.Ranges.{is_in_range}
use Rattle.tx_update.specs.Reads.{Beneath, Finds}
use Rattle.tx_update.proofs.Ranges.{above_top, with_top}
use Rattle.tx_update.proofs.lent.Lent.rows_from.Goals as goal

pub returns-in_err-top-clause-more : goal.returns-in_err-top-clause-more
returns-in_err-top-clause-more g c = begins_all c.args.self.now.running.seat.events

pub returns-then-lt-clause-finds : goal.returns-then-lt-clause-finds
returns-then-lt-clause-finds g c =
    above_top g.J.JournalId.bounds c.args.self.now.running.state.buffer c.pages.new.self.running.seat.events
    g.B.Begun.session.state.start c.pages.new.self.running.seat.events c.args.from.now c.in_ok-top.top
    c.in_ok-top.ensures.ok (sym c.lt.ensures ∙ c.if-lt.true) c.in_ok-rows.rows.items c.in_ok-rows.ensures.finds

pub returns-in_err-found-clause-more : goal.returns-in_err-found-clause-more
returns-in_err-found-clause-more g c =
    begins_more c.args.self.now.running.seat.events c.pages.new.self.running.seat.events
    c.find.new.self.running.seat.events c.pages.ensures.more c.find.ensures.more

pub returns-in_err-add_last-clause-more : goal.returns-in_err-add_last-clause-more
returns-in_err-add_last-clause-more g c =
    begins_more c.args.self.now.running.seat.events c.pages.new.self.running.seat.events
    c.find.new.self.running.seat.events c.pages.ensures.more c.find.ensures.more

pub returns : goal.returns
returns g c =
    let entries = c.args.self.now.running.state.buffer in
    let events = c.find.new.self.running.seat.events in
    let start = g.B.Begun.session.state.start in
    let top = c.in_ok-top.top in
    let upto : IsTrue (key_le c.args.from.now top) = not_lt top c.args.from.now (sym c.lt.ensures ∙ c.if-lt.false) in
    let found = subst (λ (es : Entries). Finds (buffered es top) events start top c.in_ok-found.found)
    c.pages.ensures.same
    c.in_ok-found.ensures.finds in
    record {
      same = c.find.ensures.same ∙ c.pages.ensures.same;
      more = begins_more c.args.self.now.running.seat.events c.pages.new.self.running.seat.events events
          c.pages.ensures.more c.find.ensures.more;
      finds = subst
          (λ (rows : List KeyValue). AreRowsOf (is_in_range (Some c.args.from.now) None)
          (Beneath entries events start) rows)
          (sym c.in_ok-add_last.ensures.ok)
          (with_top g.J.JournalId.bounds entries events c.know_run.ensures start c.pages.new.self.running.seat.events
          c.find.ensures.more c.args.from.now top c.in_ok-top.ensures.ok c.in_ok-rows.rows.items
          c.in_ok-rows.ensures.finds upto c.in_ok-found.found found);
      err = tt;
    }
