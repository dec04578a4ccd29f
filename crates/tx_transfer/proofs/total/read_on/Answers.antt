use Rattle.tx_transfer.proofs.Totals.{read_on, page_added}
use Rattle.tx_transfer.proofs.total.read_on.Goals as goal

pub returns-in-Some-clause-next : goal.returns-in-Some-clause-next
returns-in-Some-clause-next g c =
    let bounds = g.J.JournalId.bounds in
    let at = c.args.session.now.state.start in
    let known = c.read_page.new.session.seat.events in
    page_added bounds at known c.args.from c.in-Some.page c.args.total.now c.add_page.new.total
    (read_on bounds at c.args.session.now.seat.events known c.in_ok-page.ensures.knows c.args.from c.args.total.now
    c.requires.so_far) (rw c.in-Some.is at c.in_ok-page.ensures.page) c.add_page.result c.add_page.ensures.adds

pub returns-in-None-clause-next : goal.returns-in-None-clause-next
returns-in-None-clause-next g c =
    read_on g.J.JournalId.bounds c.args.session.now.state.start c.args.session.now.seat.events
    c.read_page.new.session.seat.events c.in_ok-page.ensures.knows c.args.from c.args.total.now c.requires.so_far
