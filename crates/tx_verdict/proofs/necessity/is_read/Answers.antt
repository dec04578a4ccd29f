-- By the view.
use Rattle.std.proofs.Common.{arith}
use Rattle.std.proofs.lemmas.List.{get_or_read}
use Rattle.std.proofs.lemmas.Grind.{common_steps}
use Rattle.tx_verdict.proofs.Chains.{read_none, read_some}
use Rattle.tx_verdict.proofs.necessity.is_read.Goals as goal

pub returns-then-version-eq0 : goal.returns-then-version-eq0
returns-then-version-eq0 c is =
    read_none c.args.case.now.recording.now c.args.versions.now c.args.read _ (grind (
      arith,
      common_steps,
      c.if-read-len.false,
    ))
    (get_or_read c.args.versions.now.names.items c.args.read.key c.index-key.result.now
    (grind (arith, common_steps, c.if-read-len-2.false)) c.index-key.ensures 0)
    c.if-version-eq0.true (c.sees_nothing.ensures is)

pub returns : goal.returns
returns c is =
    read_some c.args.case.now.recording.now c.args.versions.now c.args.read _ (grind (
      arith,
      common_steps,
      c.if-read-len.false,
    ))
    (get_or_read c.args.versions.now.names.items c.args.read.key c.index-key.result.now
    (grind (arith, common_steps, c.if-read-len-2.false)) c.index-key.ensures 0)
    c.writers_of-writers.result.now c.writers_of-writers.ensures c.if-version-eq0.false (c.sees_writer.ensures is)
