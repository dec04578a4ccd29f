use Rattle.std.proofs.Common.{◌≡◌, ap, Ok}
use Rattle.tx_engine.specs.Slots.{engine_state}
use Rattle.tx_steps.specs.Lines.{data_of, data_said}
use Rattle.tx_script.specs.Play.{value_turn, said_turn, line_turn}
use Rattle.tx_script.proofs.Ends.{then_ok}
use Rattle.tx_script.proofs.LineTurns.{stops_so, goes_as}
use Rattle.tx_script.proofs.line.play_other.Goals as goal

pub returns-in-Err-clause-goes : goal.returns-in-Err-clause-goes
returns-in-Err-clause-goes g c =
    let bounds = g.J.JournalId.bounds in
    let e = c.args.engine.now in
    stops_so bounds e (λ refused. line_turn bounds refused c.args.number c.args.line.now) c.in-Err.cause
    (λ later. ap (λ r. said_turn bounds later c.args.number r (engine_state e))
    (rw c.in-Err.is at c.in_ok-said.ensures.ok))

pub returns-in-Ok-clause-goes : goal.returns-in-Ok-clause-goes
returns-in-Ok-clause-goes g c =
    let bounds = g.J.JournalId.bounds in
    let e = c.args.engine.now in
    let said : data_said c.args.number c.args.line.now ≡ Ok (data_of c.in-Ok.said) =
    rw c.in-Ok.is at c.in_ok-said.ensures.ok in
    then_ok _ _ c.play_said.result c.play_said.ensures.goes
    (λ turned goes. goes_as bounds e c.play_said.new.engine (λ refused. value_turn bounds refused c.args.number
    (data_of c.in-Ok.said)) (λ refused. line_turn bounds refused c.args.number c.args.line.now) turned
    (λ refused. ap (λ r. said_turn bounds refused c.args.number r (engine_state e)) said) goes)
