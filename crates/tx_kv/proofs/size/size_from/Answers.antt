use Rattle.std.proofs.Common.{◌≡◌, ℕ, IfOk, IsTrue, rules, sym, subst, ◌∙◌}
use Rattle.tx_types.specs.Keys.{key_le}
use Rattle.tx_plan.proofs.KeyOrder.{not_lt}
use Rattle.tx_core.specs.Histories.{last}
use Rattle.tx_reader.specs.Readers.{IsKeyAnswer, ReadsOn}
use Rattle.tx_reader.proofs.Observers.{sees_begins, sees_itself, sees_more}
use Rattle.tx_update.specs.Ranges.{greatest}
use Rattle.tx_update.specs.Reads.{SeesOn}
use Rattle.tx_kv.specs.Views.{IsViewStop}
use Rattle.tx_kv.proofs.Sizes.{sized_above, sized_with_top}
use Rattle.tx_kv.proofs.Views.{seen_now, stops_less}
use Rattle.tx_kv.proofs.size.size_from.Goals as goal

pub returns-in_err-top-clause-seat : goal.returns-in_err-top-clause-seat
returns-in_err-top-clause-seat g c = sees_itself c.args.reader.now.seat

pub returns-then-lt-clause-finds : goal.returns-then-lt-clause-finds
returns-then-lt-clause-finds g c =
    let events = c.size_between.new.reader.seat.events in
    let at = c.args.reader.now.at in
    let is : c.in_ok-top.top ≡ greatest = search rules in
    sized_above (SeesOn g.J.JournalId.bounds events at) events at c.args.from.now c.in_ok-top.top is
    (sym c.lt.ensures ∙ c.if-lt.true) c.in_ok-size.size c.in_ok-size.ensures.finds

pub returns-in_err-found-clause-seat : goal.returns-in_err-found-clause-seat
returns-in_err-found-clause-seat g c =
    sees_more c.args.reader.now.seat c.size_between.new.reader.seat c.get-answered.new.self.seat
    c.size_between.ensures.seat c.get-answered.ensures.seat

pub returns-in_err-found-clause-err : goal.returns-in_err-found-clause-err
returns-in_err-found-clause-err g c =
    let events = c.get-answered.new.self.seat.events in
    let seen = last c.args.reader.now.seat.events in
    let mid = last c.size_between.new.reader.seat.events in
    let at = c.args.reader.now.at in
    let top = c.in_ok-top.top in
    let may = subst (λ (n : ℕ). IfOk c.get-answered.result (IsKeyAnswer events mid n top)) c.size_between.ensures.at
    c.get-answered.ensures.may in
    let both = c.in_err-found.ensures.err events mid at top may
    (c.get-answered.ensures.lossless c.requires.lossless) in
    let why : IsViewStop events seen at c.in_err-found.field-0.0 =
    stops_less events seen mid at c.size_between.ensures.seat.drawn c.in_err-found.field-0.0 both.0 in
    search rules

pub returns : goal.returns
returns g c =
    let bounds = g.J.JournalId.bounds in
    let at = c.args.reader.now.at in
    let mid = c.size_between.new.reader.seat in
    let new = c.get-answered.new.self.seat in
    let top = c.in_ok-top.top in
    let upto : IsTrue (key_le c.args.from.now top) = not_lt top c.args.from.now (sym c.lt.ensures ∙ c.if-lt.false) in
    let is : top ≡ greatest = search rules in
    let reads = subst (λ (n : ℕ). IfOk c.get-answered.result (ReadsOn bounds new.events n top))
    c.size_between.ensures.at c.get-answered.ensures.finds in
    record {
      at = c.get-answered.ensures.at ∙ c.size_between.ensures.at;
      seat = sees_more c.args.reader.now.seat mid new c.size_between.ensures.seat c.get-answered.ensures.seat;
      finds = sized_with_top bounds new.events c.know_run.ensures at mid.events
          (sees_begins mid new c.get-answered.ensures.seat) c.args.from.now top is c.in_ok-size.size
          c.with_found.result c.in_ok-size.ensures.finds upto c.in_ok-found.found
          (seen_now bounds new.events c.know_run.ensures at top c.in_ok-found.found
          (c.in_ok-found.ensures.finds bounds new.events at top reads)) c.with_found.ensures;
      err = tt;
    }
