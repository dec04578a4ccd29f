use Rattle.std.proofs.Common.{IfOk, Option, Some, sym, subst}
use Rattle.tx_types.specs.declared.key.Key.{Key}
use Rattle.tx_core.proofs.seats.Beginnings.{begins_all}
use Rattle.tx_transaction.specs.Buffers.{Entries}
use Rattle.tx_laws.specs.Rows.{AreRowsOf}
use Rattle.tx_update.specs.Ranges.{is_in_range}
use Rattle.tx_update.specs.Reads.{Beneath, FindsRange}
use Rattle.tx_update.proofs.lent.LentTx.range.Goals as goal

pub returns-in_err-range-clause-more : goal.returns-in_err-range-clause-more
returns-in_err-range-clause-more g c = begins_all c.args.self.now.running.seat.events

-- the buffer is as it was
pub with_entered-requires : goal.with_entered-requires
with_entered-requires g c =
    let range = c.in_ok-range.range in
    record {
      beneath = subst (λ (es : Entries). AreRowsOf (is_in_range (Some range.from) range.to)
          (Beneath es c.rows_in.new.self.running.seat.events g.B.Begun.session.state.start) c.in_ok-rows.rows.items)
          (sym c.rows_in.ensures.same) c.in_ok-rows.ensures.finds;
    }

pub returns-clause-finds : goal.returns-clause-finds
returns-clause-finds g c =
    let events = c.rows_in.new.self.running.seat.events in
    let start = g.B.Begun.session.state.start in
    let range = c.in_ok-range.range in
    subst (λ (es : Entries). IfOk c.with_entered.result (λ rows. FindsRange es events start c.args.from c.args.to
    rows.items)) c.rows_in.ensures.same
    (subst (λ (to : Option Key). IfOk c.with_entered.result (λ rows. FindsRange c.rows_in.new.self.running.state.buffer
    events start c.args.from to rows.items)) c.in_ok-range.ensures.ok.1
    (subst (λ (k : Key). IfOk c.with_entered.result (λ rows. FindsRange c.rows_in.new.self.running.state.buffer events
    start (Some k) range.to rows.items)) c.in_ok-range.ensures.ok.0 c.with_entered.ensures.finds))
