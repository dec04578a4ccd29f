-- All of it together.
use Rattle.tx_verdict.proofs.Together.{forced_of}
use Rattle.tx_verdict.proofs.necessity.is_forced.Goals as goal

pub returns : goal.returns
returns c is = forced_of c.args.case.now.recording.now c.args.versions.now
    (c.in_ok-are_chains.ensures c.if-not-branch.false) (c.are_reads.ensures is)
