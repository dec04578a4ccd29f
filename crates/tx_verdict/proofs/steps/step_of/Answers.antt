-- What the history has holds under each explanation.
use Rattle.std.proofs.Common.{arith}
use Rattle.std.proofs.lemmas.Grind.{common_steps}
use Rattle.std.proofs.lemmas.List.{get_or_read}
use Rattle.tx_history.specs.Records.{history_of}
use Rattle.tx_verdict.specs.Forced.{key_of}
use Rattle.tx_verdict.proofs.CycleSteps.{step_on}
use Rattle.tx_verdict.proofs.steps.step_of.Goals as goal

pub returns : goal.returns
returns c =
    let d = c.args.dependency in
    let v = c.args.versions.now in
    step_on c.args.recording.now c.args.orders (history_of v.recorded) (key_of v) c.requires.forced d.kind d.from d.to
    d.key d.version
    c.index.result.now c.in_ok-edge.edge c.requires.holds c.in_ok-edge.ensures
    (get_or_read v.names.items d.key c.index.result.now (grind (arith, common_steps, c.if-dependency-len.false))
    c.index.ensures 0)
