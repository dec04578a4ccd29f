-- It is known, or a value of it was seen.
use Rattle.std.proofs.Common.{◌<◌, arith, inl}
use Rattle.std.proofs.lemmas.Grind.{common_steps}
use Rattle.tx_recording.specs.declared.recording.RecordedOutcome.TheVariants.{Ok as Committed}
use Rattle.tx_recording.specs.Recordings.{txns_of}
use Rattle.tx_verdict.proofs.Small.{outcome_is}
use Rattle.tx_verdict.proofs.necessity.is_known.Goals as goal

pub returns-then-is_ok : goal.returns-then-is_ok
returns-then-is_ok c _ =
    let r = c.args.case.now.recording.now in
    let lt : c.args.txn < txns_of r = grind (arith, common_steps, c.if-txn-len.false) in
    inl (outcome_is r c.args.txn c.index.result.now Committed lt c.index.ensures
    (c.is_ok.ensures.0 c.if-is_ok.true))
