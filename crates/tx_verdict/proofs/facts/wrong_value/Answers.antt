-- Nobody put the value, one that failed did, or the reader does later.
use Rattle.tx_verdict.proofs.Refutations.{fact_unwritten, fact_aborted, fact_itself}
use Rattle.tx_verdict.proofs.facts.wrong_value.Goals as goal

pub returns-in_default : goal.returns-in_default
returns-in_default c =
    fact_unwritten c.args.case.now.recording.now c.args.case.now.owners.now c.requires.case.owners c.args.view
    c.requires.view c.args.list.now
    c.requires.list
    c.args.i c.requires.within c.fact_of.result c.fact_of.ensures c.in_default.ensures.none

pub returns-then-is_failed : goal.returns-then-is_failed
returns-then-is_failed c =
    fact_aborted c.args.case.now.recording.now c.args.case.now.owners.now c.requires.case.owners c.args.view
    c.requires.view c.args.list.now
    c.requires.list
    c.args.i c.requires.within c.fact_of-then-is_failed.result
    c.in-Some.owner c.fact_of-then-is_failed.ensures c.in-Some.ensures.some
    (c.is_failed.ensures c.if-is_failed.true)

pub returns-then-owner-view : goal.returns-then-owner-view
returns-then-owner-view c =
    fact_itself c.args.case.now.recording.now c.args.case.now.owners.now c.requires.case.owners c.args.view
    c.requires.view c.args.list.now
    c.requires.list
    c.args.i c.requires.within c.fact_of-then-owner-view.result c.in-Some.owner c.fact_of-then-owner-view.ensures
    c.in-Some.ensures.some c.if-owner-view.true
