use Rattle.std.proofs.Common.{arith}
use Rattle.tx_records.specs.Recorded.{SpellsLock, same_lock}
use Rattle.tx_records.proofs.LockEnds.{value_at}
use Rattle.tx_records.proofs.records.LockBytes.new.Goals as goal

pub invariant_of-result : goal.invariant_of-result
invariant_of-result c =
    let bytes = c.in_ok-bytes.bytes.items in
    let spelt : SpellsLock bytes c.args.rec.now = (c.requires, c.in_ok-bytes.ensures) in
    ((c.args.rec.now, spelt), (λ other s. value_at bytes c.args.rec.now other _ spelt s (omega arith), tt))

pub returns-clause-ok : goal.returns-clause-ok
returns-clause-ok c = same_lock c.in_ok-bytes.bytes.items _ _ c.result-1.given.0.1 (c.requires, c.in_ok-bytes.ensures)
