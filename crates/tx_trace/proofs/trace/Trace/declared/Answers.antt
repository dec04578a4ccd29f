use Rattle.std.proofs.Common.{refl}
use Rattle.tx_core.specs.declared.event.Event.TheVariants.{Declared}
use Rattle.tx_trace.proofs.Histories.{adds_view, stays_view}
use Rattle.tx_trace.proofs.trace.Trace.declared.Goals as goal

pub returns-clause-ok : goal.returns-clause-ok
returns-clause-ok c =
    adds_view c.declared.result c.self.inside.log c.declared.new.self c.self.inside.taken c.args.self.now c.self.view_is
    (Declared c.args.of.now) (λ h. refl) c.declared.ensures.ok

pub returns-clause-same : goal.returns-clause-same
returns-clause-same c =
    stays_view c.declared.result c.self.inside.log c.declared.new.self c.self.inside.taken c.args.self.now
    c.self.view_is c.declared.ensures.same
