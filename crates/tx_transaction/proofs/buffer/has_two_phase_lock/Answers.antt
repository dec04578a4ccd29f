use Rattle.std.proofs.Common.{arith, sym, ◌<◌, ◌≡◌, length, true}
use Rattle.tx_transaction.specs.Buffers.{is_zero, progress_at}
use Rattle.tx_transaction.proofs.Places.{two_phase_there, two_phase_nowhere}
use Rattle.tx_transaction.proofs.buffer.has_two_phase_lock.Goals as goal

pub returns-then-is_two_phase : goal.returns-then-is_two_phase
returns-then-is_two_phase c =
    let lt : c.loop-i.i < length c.args.buffer.now = omega (arith, c.len-i-end.ensures.len) in
    let here : is_zero (progress_at c.args.buffer.now c.loop-i.i).accepted ≡ true = cc in
    sym (two_phase_there c.args.buffer.now c.loop-i.i lt here)

pub returns : goal.returns
returns c = sym (two_phase_nowhere c.args.buffer.now
    (λ k lt. c.loop-i.invariant k (omega (arith, c.len-i-end.ensures.len))))
