use Rattle.tx_machine.proofs.Reasons.{scans_ok}
use Rattle.tx_machine.proofs.machine.Machine.seen_otherwise.Goals as goal

pub returns-clause-ok : goal.returns-clause-ok
returns-clause-ok c =
    scans_ok c.args.self.now c.args.scan.now c.args.key.now _ c.in_ok-seen.seen c.as_slice.result.now c.requires
    c.in_ok-seen.ensures.ok c.value_in.ensures c.as_slice.ensures c.read_reason.result c.read_reason.ensures.ok
