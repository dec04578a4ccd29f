use Rattle.std.proofs.Common.{ℕ, Some, ap, ◌∙◌}
use Rattle.tx_run.specs.Played.{moving}
use Rattle.tx_run.proofs.AnsweredLines.{began}
use Rattle.tx_run.proofs.job.ScriptJob.go_on.Goals as goal

pub returns-clause-goes : goal.returns-clause-goes
returns-clause-goes g c =
    began c.args.self.now c.set_state.new.self c.args.number c.args.transfer.value c.requires.of c.set_state.ensures

pub returns-clause-set : goal.returns-clause-set
returns-clause-set g c = c.set_state.ensures
    ∙ ap (λ (n : ℕ). record c.args.self.now { going = Some n; stands = moving c.args.transfer.value }) c.requires.of
