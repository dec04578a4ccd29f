use Rattle.tx_core.specs.declared.event.Event.TheVariants.{Declared}
use Rattle.tx_trace.specs.Logs.{LogGoesOn, Enters}
use Rattle.tx_trace.proofs.Declarations.{declares}
use Rattle.tx_trace.proofs.Requests.{on_ok}
use Rattle.tx_trace.proofs.log.TraceLog.declared.Goals as goal

pub returns-clause-ok : goal.returns-clause-ok
returns-clause-ok c =
    on_ok c.enter.result (Enters c.args.of.now c.args.self.now c.enter.new.self)
    (LogGoesOn c.args.self.now (Declared c.args.of.now) c.enter.new.self)
    (λ enters bounds h run t. declares bounds h c.args.of.now run c.args.self.now c.enter.new.self t enters)
    c.enter.ensures.ok
