use Rattle.std.proofs.Common.{arith}
use Rattle.tx_cells.specs.Afterwards.{lock_put}
use Rattle.tx_records.specs.Recorded.{SpellsLock, same_lock}
use Rattle.tx_records.proofs.LockEnds.{value_at}
use Rattle.tx_records.proofs.asked_lock.lock_bytes.Goals as goal

pub invariant_of-result : goal.invariant_of-result
invariant_of-result c =
    let bytes = c.in_ok-bytes.bytes.items in
    let rec = lock_put c.args.body.now c.args.new in
    let spelt : SpellsLock bytes rec = (c.fits.ensures, c.in_ok-bytes.ensures) in
    ((rec, spelt), (λ other s. value_at bytes rec other _ spelt s (omega (arith, c.kept_len.ensures.len)), tt))

pub returns-clause-ok : goal.returns-clause-ok
returns-clause-ok c = same_lock c.in_ok-bytes.bytes.items _ _ c.result-1.given.0.1
    (c.fits.ensures, c.in_ok-bytes.ensures)
