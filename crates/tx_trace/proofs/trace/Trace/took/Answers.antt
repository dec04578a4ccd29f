use Rattle.std.proofs.Common.{subst}
use Rattle.tx_trace.specs.Traces.{Noted, noted, Stays}
use Rattle.tx_trace.proofs.Histories.{taken_view, stays_out, also_err}
use Rattle.tx_trace.proofs.trace.Trace.took.Goals as goal

pub returns-clause-ok : goal.returns-clause-ok
returns-clause-ok c =
    taken_view c.took.result c.self.inside.log c.took.new.self c.self.inside.taken c.args.self.now c.self.view_is
    c.note_took.new.taken c.args.body.now c.args.answer.now c.in_ok-took.ensures.ok c.note_took.ensures

pub returns-in_err-took-clause-same : goal.returns-in_err-took-clause-same
returns-in_err-took-clause-same c =
    also_err c.from_residual.result (Stays c.args.self.now (noted c.took.new.self c.self.inside.taken))
    (subst (λ (n : Noted). Stays n (noted c.took.new.self c.self.inside.taken)) c.self.view_is
    (stays_out c.self.inside.log c.took.new.self c.self.inside.taken c.in_err-took.ensures.same))
