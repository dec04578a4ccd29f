-- Those so far saw what they read.
use Rattle.std.proofs.Common.{ℕ, ◌<◌, get_or}
use Rattle.tx_verdict.specs.Forced.{IsReadForced, no_read}
use Rattle.tx_verdict.proofs.necessity.are_reads.Given as goal

abbrev pub invariant-loop-i : goal.invariant-loop-i
invariant-loop-i l = (i : ℕ) → i < l.i
    → IsReadForced l.case.recording.now l.versions (get_or l.versions.recorded.reads.items i no_read)
