use Rattle.std.proofs.Common.{sym, subst}
use Rattle.tx_trace.specs.Logs.{Prewrites}
use Rattle.tx_trace.proofs.log.TraceLog.prewrite.Goals as goal

pub returns-in_ok-check-in-Prewritten-clause-ok : goal.returns-in_ok-check-in-Prewritten-clause-ok
returns-in_ok-check-in-Prewritten-clause-ok c =
    subst (λ a. Prewrites c.args.body.now a c.args.self.now c.lock.new.self) (sym c.in-Prewritten.is)
    (record {
      between = c.check.new.self;
      checks = c.in_ok-check-in-Prewritten.ensures.ok;
      locks =
          c.lock.ensures.locks;
      still = c.lock.ensures.still;
    })
