use Rattle.std.proofs.Common.{ap, option_map}
use Rattle.tx_types.specs.declared.fault.Cause.TheVariants.{Form}
use Rattle.tx_steps.specs.Steps.{asked}
use Rattle.tx_engine.specs.Slots.{engine_state}
use Rattle.tx_script.specs.Play.{step_turn}
use Rattle.tx_script.proofs.LineTurns.{stops_so}
use Rattle.tx_script.proofs.line.play_step.Goals as goal

pub returns-in-None : goal.returns-in-None
returns-in-None g c =
    let bounds = g.J.JournalId.bounds in
    let e = c.args.engine.now in
    record {
      goes = stops_so bounds e (λ refused. step_turn bounds refused (option_map asked c.args.step)) Form
          (λ later. ap (λ o. step_turn bounds later (option_map asked o) (engine_state e)) c.in-None.is);
    }
