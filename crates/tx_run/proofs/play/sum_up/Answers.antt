use Rattle.tx_workload.proofs.Evidence.{lines_tell_on}
use Rattle.tx_run.proofs.AllAnswers.{outcomes_on}
use Rattle.tx_run.proofs.Totals.{tells_total}
use Rattle.tx_run.proofs.play.sum_up.Goals as goal

pub returns-clause-told : goal.returns-clause-told
returns-clause-told g c =
    outcomes_on g.J.JournalId.bounds c.args.seat.events c.in_ok-total.seat.events c.number.ensures.run.0
    c.in_ok-total.ensures.knows c.args.replies.now c.requires.told

pub returns-clause-tells : goal.returns-clause-tells
returns-clause-tells g c =
    lines_tell_on g.L.Source.text g.J.JournalId.bounds c.args.seat.events c.in_ok-total.seat.events
    c.in_ok-total.ensures.knows c.args.replies.now c.requires.tells

pub returns-clause-total : goal.returns-clause-total
returns-clause-total g c =
    tells_total g.J.JournalId.bounds c.args.seat.events c.in_ok-total.seat.events c.args.replies.now
    c.in_ok-total.total c.requires.told c.number.ensures.run.0 c.in_ok-total.ensures.total

pub returns-clause-sums : goal.returns-clause-sums
returns-clause-sums g c = record {
  before = c.args.seat.events;
  begins = c.in_ok-total.ensures.knows;
  told = c.requires.told;
  tells = c.requires.tells;
  sums = c.in_ok-total.ensures.total;
}
