use Rattle.std.proofs.Common.{ap, ◌∙◌}
use Rattle.std.specs.Prelude.{is_some}
use Rattle.tx_run.specs.Jobs.{Working}
use Rattle.tx_run.specs.Played.{is_moving}
use Rattle.tx_run.proofs.AnsweredLines.{transfer_stands, transferring}
use Rattle.tx_run.proofs.job.ScriptJob.is_transferring.Goals as goal

pub returns-clause-going : goal.returns-clause-going
returns-clause-going g c = c.is_transfer.ensures ∙ transferring c.self.inside.state (λ transfer. transfer.value.number)
    ∙ ap (λ (w : Working). is_some w.going) c.self.view_is

pub returns-clause-stands : goal.returns-clause-stands
returns-clause-stands g c = c.is_transfer.ensures
    ∙ transfer_stands c.self.inside.state (λ session. session.value) (λ transfer. transfer.value)
    ∙ ap (λ (w : Working). is_moving w.stands) c.self.view_is
