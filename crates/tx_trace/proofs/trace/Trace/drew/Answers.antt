use Rattle.tx_trace.proofs.Histories.{drawn_view, stays_view}
use Rattle.tx_trace.proofs.trace.Trace.drew.Goals as goal

pub returns-clause-ok : goal.returns-clause-ok
returns-clause-ok c =
    drawn_view c.drew.result c.self.inside.log c.drew.new.self c.self.inside.taken c.args.self.now c.self.view_is
    c.args.ts c.drew.ensures.ok

pub returns-clause-same : goal.returns-clause-same
returns-clause-same c =
    stays_view c.drew.result c.self.inside.log c.drew.new.self c.self.inside.taken c.args.self.now c.self.view_is
    c.drew.ensures.same
