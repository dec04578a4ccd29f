use Rattle.std.proofs.Common.{List, IsTrue, rules, sym, subst, ◌∙◌}
use Rattle.tx_types.specs.declared.key.Key.{Key}
use Rattle.tx_types.specs.Keys.{key_le, key_lt}
use Rattle.tx_core.specs.Histories.{last}
use Rattle.tx_reader.specs.Readers.{AreTogether}
use Rattle.tx_reader.proofs.Observers.{sees_itself}
use Rattle.tx_update.proofs.ReadAnswers.{page_told}
use Rattle.tx_kv.specs.Views.{IsViewStop}
use Rattle.tx_kv.proofs.ranges.page.Goals as goal

pub returns-in_err-end-clause-seat : goal.returns-in_err-end-clause-seat
returns-in_err-end-clause-seat g c = sees_itself c.args.reader.now.seat

pub scan-answered-requires-clause-held : goal.scan-answered-requires-clause-held
scan-answered-requires-clause-held g c =
    let bounds = g.J.JournalId.bounds in
    let from = c.args.from.now in
    let between = c.bounds.ensures.value ∙ c.requires.way.between c.args.sender.now in
    subst (λ (k : Key). AreTogether bounds from k) (sym c.in_ok-end.ensures.ok)
    (subst (λ (ks : List Key). AreTogether ks from c.end_of_part.result.now) between c.end_of_part.ensures.together)

pub returns-clause-upto : goal.returns-clause-upto
returns-clause-upto g c =
    subst (λ (k : Key). IsTrue (key_le k c.args.to.now)) (sym c.in_ok-end.ensures.ok) c.end_of_part.ensures.upto

pub returns-clause-some : goal.returns-clause-some
returns-clause-some g c =
    λ lt. subst (λ (k : Key). IsTrue (key_lt c.args.from.now k)) (sym c.in_ok-end.ensures.ok)
    (c.end_of_part.ensures.some lt)

pub returns-clause-finds : goal.returns-clause-finds
returns-clause-finds g c =
    let bounds = g.J.JournalId.bounds in
    let events = c.scan-answered.new.self.seat.events in
    let at = c.args.reader.now.at in
    page_told bounds events c.know_run.ensures at c.args.from.now c.in_ok-end.end c.args.limit c.in_ok-rows.rows
    (c.in_ok-rows.ensures.finds bounds events at c.args.from.now c.in_ok-end.end c.args.limit
    c.scan-answered.ensures.finds)

pub returns-in_err-rows-clause-err : goal.returns-in_err-rows-clause-err
returns-in_err-rows-clause-err g c =
    let events = c.scan-answered.new.self.seat.events in
    let seen = last c.args.reader.now.seat.events in
    let why : IsViewStop events seen c.args.reader.now.at c.in_err-rows.field-0.0 =
    c.in_err-rows.ensures.err events seen c.args.reader.now.at c.scan-answered.ensures.may
    (c.scan-answered.ensures.lossless c.requires.lossless) in
    search rules
