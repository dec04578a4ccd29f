use Rattle.std.proofs.Common.{ap, ◌∙◌, map}
use Rattle.std.specs.Prelude.{reverse}
use Rattle.tx_run.specs.Jobs.{Working}
use Rattle.tx_workload.specs.LineNumbers.{number_of}
use Rattle.tx_run.specs.States.{going_of, where_of}
use Rattle.tx_run.proofs.job.ScriptJob.set_state.Goals as goal

pub returns : goal.returns
returns g c =
    let j : Working = record {
      number = c.self.inside.number;
      log = c.self.inside.log;
      going = going_of c.self.inside.state (λ transfer. transfer.value.number);
      left = map number_of (reverse c.self.inside.lines.items);
      stands = where_of c.self.inside.state (λ session. session.value) (λ transfer. transfer.value);
      faulted = c.self.inside.faulted;
    } in
    ap (λ s. record j {
      going = going_of s (λ transfer. transfer.value.number);
      stands = where_of s (λ session. session.value) (λ transfer. transfer.value);
    }) c.replace.ensures.after
    ∙ ap (λ (w : Working). record w {
      going = going_of c.args.state (λ transfer. transfer.value.number);
      stands = where_of c.args.state (λ session. session.value) (λ transfer. transfer.value);
    }) c.self.view_is
