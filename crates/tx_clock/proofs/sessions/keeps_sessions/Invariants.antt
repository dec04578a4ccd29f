-- The table has what each process ran last; and each one so far starts above.
use Rattle.std.proofs.Common.{◌≡◌, ℕ, ◌<◌, ◌≤◌, length, get_or, Some, IsTrue}
use Rattle.tx_recording.specs.declared.recording.RecordedOutcome.TheVariants.{Ok}
use Rattle.tx_recording.specs.Recordings.{txns_of, transaction_at}
use Rattle.tx_recording.specs.Explanations.{IsSession}
use Rattle.tx_clock.specs.KeptOrder.{live_in}
use Rattle.tx_clock.proofs.sessions.keeps_sessions.Given as goal

abbrev pub invariant-loop-txn : goal.invariant-loop-txn
invariant-loop-txn l = record {
  each : length l.latest.items ≡ txns_of l.recording;
  above : (t p : ℕ) → t < l.txn → (transaction_at l.recording t).process ≡ Some p
      → (transaction_at l.recording t).outcome ≡ Ok
      → get_or l.commits t 0 ≤ get_or l.latest.items p 0;
  kept : (t u : ℕ) → u < l.txn → IsSession l.recording t u → IsTrue (live_in l.live u)
      → get_or l.commits t 0 ≤ get_or l.starts u 0;
}
