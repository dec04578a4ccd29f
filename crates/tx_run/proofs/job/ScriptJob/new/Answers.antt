use Rattle.std.proofs.Common.{ap}
use Rattle.tx_workload.specs.Answers.{has_fault}
use Rattle.tx_workload.specs.LineNumbers.{number_of}
use Rattle.tx_run.proofs.LinesLeft.{owns_turned}
use Rattle.tx_run.proofs.job.ScriptJob.new.Goals as goal

pub invariant_of-result : goal.invariant_of-result
invariant_of-result g c = (
  record { over = λ e. absurd (cc (e)); ends = λ e. ap has_fault c.new-log.ensures.log.1 },
  owns_turned number_of g.L.Source.text c.args.number c.args.lines.items c.reverse.new.self.items
      c.reverse.ensures.items
      c.requires,
)
