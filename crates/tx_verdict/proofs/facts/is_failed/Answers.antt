-- As it stands in the recording.
use Rattle.std.proofs.Common.{◌<◌, arith}
use Rattle.std.proofs.lemmas.Grind.{common_steps}
use Rattle.tx_recording.specs.declared.recording.RecordedOutcome.TheVariants.{Fail as Failed}
use Rattle.tx_recording.specs.Recordings.{txns_of}
use Rattle.tx_verdict.proofs.Small.{outcome_is}
use Rattle.tx_verdict.proofs.facts.is_failed.Goals as goal

pub returns-in-Fail : goal.returns-in-Fail
returns-in-Fail c _ =
    let r = c.args.recording.now in
    let lt : c.args.txn < txns_of r = grind (arith, common_steps, c.if-txn-len.false) in
    outcome_is r c.args.txn c.index.result.now Failed lt c.index.ensures c.in-Fail.is
