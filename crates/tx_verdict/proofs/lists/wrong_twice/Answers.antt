-- The value is at an earlier place as well.
use Rattle.tx_verdict.proofs.Torn.{fact_twice}
use Rattle.tx_verdict.proofs.lists.wrong_twice.Goals as goal

pub returns-in-Some : goal.returns-in-Some
returns-in-Some c =
    fact_twice c.args.case.now.recording.now c.args.case.now.owners.now c.requires.case.owners c.args.view
    c.requires.view
    c.list_of-list.result.now
    c.list_of-list.ensures c.in-Some._earlier c.loop-j.j c.in-Some.ensures.0 c.loop-j-test.true c.in-Some.ensures.1
