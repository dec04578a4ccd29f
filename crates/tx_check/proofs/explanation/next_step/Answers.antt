use Rattle.std.proofs.Common.{◌≡◌, Ok, rules}
use Rattle.tx_check.specs.declared.explanation.StepTurn.TheVariants.{Made, Refused}
use Rattle.tx_check.specs.Check.{step_in}
use Rattle.tx_check.specs.Turns.{StepTurns}
use Rattle.tx_check.proofs.Traces.{if_some}
use Rattle.tx_check.proofs.explanation.next_step.Goals as goal

pub returns-in-Err-Step-clause-turns : goal.returns-in-Err-Step-clause-turns
returns-in-Err-Step-clause-turns g c =
    let reads = rw c.in-Line.is at c.in_ok-read_line.ensures.reads in
    let line = c.read_line.new.line.items in
    let found : step_in c.args.number line ≡ Ok c.in-Ok.step = search rules in
    let refused = rw c.in-Err-Step.field-0-is at c.in-Err-Step.ensures.refused in
    let keeps = c.in-Err-Step.ensures.same in
    if_some _ (λ bytes read.
    let turns : StepTurns bytes (g.R.Read.remaining c.read_line.new.reader) c.args.machine.now c.step.new.self
    c.args.number
    (Refused c.in-Ok.step) =
    (line, read.0, read.1, read.3, found, refused (search rules), keeps) in turns) reads

pub returns-in-Ok-step-clause-turns : goal.returns-in-Ok-step-clause-turns
returns-in-Ok-step-clause-turns g c =
    let reads = rw c.in-Line.is at c.in_ok-read_line.ensures.reads in
    let line = c.read_line.new.line.items in
    let found : step_in c.args.number line ≡ Ok c.in-Ok.step = search rules in
    let makes = c.in-Ok-step.ensures.ok in
    if_some _ (λ bytes read.
    let turns : StepTurns bytes (g.R.Read.remaining c.read_line.new.reader) c.args.machine.now c.step.new.self
    c.args.number
    (Made c.in-Ok.step) =
    (line, read.0, read.1, read.3, found, makes) in turns) reads
