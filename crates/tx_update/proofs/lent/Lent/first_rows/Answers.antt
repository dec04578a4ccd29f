use Rattle.std.proofs.Common.{subst}
use Rattle.tx_types.specs.declared.key.Key.{Key}
use Rattle.tx_plan.proofs.KeyOrder.{lt_le}
use Rattle.tx_update.specs.Ranges.{IsSplit}
use Rattle.tx_update.specs.Reads.{SeesOn}
use Rattle.tx_update.proofs.Pages.{first_page}
use Rattle.tx_update.proofs.Ranges.{upto_key}
use Rattle.tx_update.proofs.lent.Lent.first_rows.Goals as goal

pub returns-clause-finds : goal.returns-clause-finds
returns-clause-finds g c =
    let bounds = g.J.JournalId.bounds in
    let start = g.B.Begun.session.state.start in
    let events = c.look_for.new.self.running.seat.events in
    let from = c.args.from.now in
    let to = c.args.to.now in
    let front = c.split_page.result.0.items in
    let upto = c.split_page.result.1 in
    let split : IsSplit c.args.limit c.in_ok-page.page to front upto =
    subst (λ (k : Key). IsSplit c.args.limit c.in_ok-page.page k front upto) c.in_ok-end.ensures.ok
    c.split_page.ensures in
    upto_key bounds c.args.self.now.running.state.buffer events c.know_run.ensures start from upto front
    (first_page (SeesOn bounds events start) from to c.args.limit upto c.in_ok-page.page front
    (lt_le from to c.requires.below) c.in_ok-page.ensures.tells split)
