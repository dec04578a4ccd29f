-- The writer left no such list.
use Rattle.std.proofs.Common.{subst}
use Rattle.tx_views.specs.Views.{IsEffect}
use Rattle.tx_verdict.proofs.Torn.{own_distinct, fact_torn}
use Rattle.tx_verdict.proofs.block.wrong_block.Goals as goal

pub is_whole-requires-clause-once : goal.is_whole-requires-clause-once
is_whole-requires-clause-once c =
    own_distinct c.args.case.now.recording.now c.args.case.now.owners.now c.requires.case.owners
    c.in-Some.owner.txn c.args.view.key
    c.in_ok-effect.effect
    (subst (λ os. IsEffect os c.args.view.key c.in_ok-effect.effect) c.ops_of.ensures.are c.in_ok-effect.ensures)

pub returns : goal.returns
returns c =
    fact_torn c.args.case.now.recording.now c.args.case.now.owners.now c.requires.case.owners c.args.view
    c.requires.view c.args.list.now
    c.requires.list c.args.i
    c.requires.within c.in-Some.owner c.in-Some.ensures.some c.in_ok-effect.effect
    (subst (λ os. IsEffect os c.args.view.key c.in_ok-effect.effect) c.ops_of.ensures.are c.in_ok-effect.ensures)
    (c.is_whole.ensures c.if-is_whole.false)
