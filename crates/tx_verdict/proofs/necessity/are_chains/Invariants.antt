-- The chains so far hold.
use Rattle.std.proofs.Common.{ℕ, ◌<◌}
use Rattle.tx_verdict.specs.Forced.{IsChain}
use Rattle.tx_verdict.proofs.necessity.are_chains.Given as goal

abbrev pub invariant-loop-chain : goal.invariant-loop-chain
invariant-loop-chain l = (q : ℕ) → q < l.chain → IsChain l.case.recording.now l.versions q
