use Rattle.std.proofs.Common.{refl}
use Rattle.tx_transfer.proofs.Totals.{page_start, page_knows, page_of}
use Rattle.tx_transfer.proofs.requests.page.Goals as goal

pub returns-clause-sends : goal.returns-clause-sends
returns-clause-sends g c = c.scan-answered.ensures

pub returns-clause-start : goal.returns-clause-start
returns-clause-start g c = page_start g.S.Sender.sends g.J.JournalId.bounds c.args.from.now c.args.to.now
    c.args.session.now c.scan-answered.new.self c.args.sender.now c.scan-answered.new.sender c.scan-answered.result
    c.scan-answered.ensures

pub returns-clause-knows : goal.returns-clause-knows
returns-clause-knows g c = page_knows g.S.Sender.sends g.J.JournalId.bounds c.args.from.now c.args.to.now
    c.args.session.now c.scan-answered.new.self c.args.sender.now c.scan-answered.new.sender c.scan-answered.result
    c.scan-answered.ensures

pub returns-clause-page : goal.returns-clause-page
returns-clause-page g c = page_of g.S.Sender.sends g.J.JournalId.bounds c.args.from.now c.args.to.now
    c.args.session.now c.scan-answered.new.self c.args.sender.now c.scan-answered.new.sender c.scan-answered.result
    c.scan-answered.ensures g.S.Sender.fits g.S.Sender.keys_between c.requires.way c.requires.top c.requires.rising
    c.show.ensures.run c.scan-answered.result refl
