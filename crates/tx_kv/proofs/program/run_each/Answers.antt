use Rattle.std.proofs.Common.{rules}
use Rattle.tx_kv.proofs.ClientNumbers.{as_many}
use Rattle.tx_kv.proofs.program.run_each.Goals as goal

pub returns-clause-count : goal.returns-clause-count
returns-clause-count g c =
    let many = as_many c.args.jobs.items c.args.shared.clients c.requires.numbers in
    let len = c.in_ok-outs.ensures.len in
    search rules
