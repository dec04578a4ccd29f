use Rattle.std.proofs.Common.{ap, sym}
use Rattle.tx_types.specs.declared.fault.Cause.TheVariants.{Form}
use Rattle.tx_steps.specs.Steps.{step_said}
use Rattle.tx_steps.specs.declared.program.Program.TheVariants.{Simulate}
use Rattle.tx_text.specs.Parts.{parts_items}
use Rattle.tx_engine.specs.Slots.{engine_state}
use Rattle.tx_script.specs.Play.{step_turn}
use Rattle.tx_script.proofs.LineTurns.{stops_so}
use Rattle.tx_script.proofs.line.play_members.Goals as goal

pub returns-else-put_step : goal.returns-else-put_step
returns-else-put_step g c =
    let bounds = g.J.JournalId.bounds in
    let e = c.args.engine.now in
    record {
      goes = stops_so bounds e
          (λ refused. step_turn bounds refused (step_said Simulate (parts_items c.args.members.now))) Form
          (λ later. ap (λ o. step_turn bounds later o (engine_state e)) (sym c.if-put_step.ensures));
    }
