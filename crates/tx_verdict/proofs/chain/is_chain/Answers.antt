-- One version more.
use Rattle.std.proofs.Common.{length, arith, ap}
use Rattle.tx_history.specs.Records.{writers_of}
use Rattle.tx_verdict.proofs.Chains.{more_links}
use Rattle.tx_verdict.proofs.chain.is_chain.Goals as goal

pub loop-i-preserved : goal.loop-i-preserved
loop-i-preserved c =
    let r = c.args.case.now.recording.now in
    let ws = c.writers_of-writers.result.now in
    let both = more_links r c.args.key (writers_of c.args.versions.now.recorded c.args.chain) ws c.loop-i.i
    c.loop-i.known c.in_ok-based.based
    c.both-known.result
    c.writers_of-writers.ensures c.loop-i-test.true c.requires.writers c.loop-i.invariant.links c.loop-i.invariant.based
    c.in_ok-based.ensures (c.is_next.ensures c.if-not-is_next.false) c.both-known.ensures in
    record { links = both.0; based = both.1 }

pub returns : goal.returns
returns c _ i lt = c.loop-i.invariant.links i
    (let end = c.loop-i-test.false in let n = ap length c.writers_of-writers.ensures in omega (arith, end, n, lt))
