use Rattle.std.proofs.Common.{refl}
use Rattle.tx_core.specs.declared.event.Event.TheVariants.{Answered}
use Rattle.tx_trace.proofs.Histories.{adds_view, stays_view}
use Rattle.tx_trace.proofs.trace.Trace.answered.Goals as goal

pub returns-clause-ok : goal.returns-clause-ok
returns-clause-ok c =
    adds_view c.answered.result c.self.inside.log c.answered.new.self c.self.inside.taken c.args.self.now c.self.view_is
    (Answered c.args.start c.args.outcome) (λ h. refl) c.answered.ensures.ok

pub returns-clause-same : goal.returns-clause-same
returns-clause-same c =
    stays_view c.answered.result c.self.inside.log c.answered.new.self c.self.inside.taken c.args.self.now
    c.self.view_is c.answered.ensures.same
