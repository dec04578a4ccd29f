use Rattle.std.proofs.Common.{refl}
use Rattle.tx_core.specs.declared.event.Event.TheVariants.{Began}
use Rattle.tx_trace.proofs.Histories.{adds_view, stays_view}
use Rattle.tx_trace.proofs.trace.Trace.began.Goals as goal

pub returns-clause-ok : goal.returns-clause-ok
returns-clause-ok c =
    adds_view c.began.result c.self.inside.log c.began.new.self c.self.inside.taken c.args.self.now c.self.view_is
    (Began c.args.start) (λ h. refl) c.began.ensures.ok

pub returns-clause-same : goal.returns-clause-same
returns-clause-same c =
    stays_view c.began.result c.self.inside.log c.began.new.self c.self.inside.taken c.args.self.now c.self.view_is
    c.began.ensures.same
