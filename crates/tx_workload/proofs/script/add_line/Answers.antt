use Rattle.std.proofs.Common.{◌<◌, length, arith}
use Rattle.tx_workload.specs.LineNumbers.{number_of}
use Rattle.tx_workload.proofs.ReaderStates.{added_at}
use Rattle.tx_workload.proofs.script.add_line.Goals as goal

pub returns-in_ok-push-clause-added : goal.returns-in_ok-push-clause-added
returns-in_ok-push-clause-added g c within =
    let inside : c.args.index < length c.args.sessions.now.items = omega (arith, within, c.args.sessions.now.ok.0) in
    added_at (λ v. v.items) number_of c.args.sessions.now.items c.args.index c.in-Some.lines.now c.push.new.self
    c.args.line inside c.in-Some.ensures.value c.in_ok-push.ensures.items
