-- One view more.
use Rattle.tx_views.proofs.ReadViews.{pushed}
use Rattle.tx_views.proofs.view.add_view.Goals as goal

pub returns-in_ok-push-in-Base-clause-only : goal.returns-in_ok-push-in-Base-clause-only
returns-in_ok-push-in-Base-clause-only c =
    (let b = c.in_ok-span.ensures in let d = c.in_ok-push-in-Base.ensures.items in let g = c.in-Base.is in
    (pushed c.args.recording.now c.args.txn c.args.place c.in-Read.span c.in-Base.span c.in_ok-span.field-0
    c.ops_of-ops.result.now
    c.args.views.now.items c.push.new.self.items c.ops_of-ops.ensures.are c.requires.ok c.in-Read.is b g d
    c.requires.only).0)

pub returns-in_ok-push-in-Base-clause-answered : goal.returns-in_ok-push-in-Base-clause-answered
returns-in_ok-push-in-Base-clause-answered c =
    (let b = c.in_ok-span.ensures in let d = c.in_ok-push-in-Base.ensures.items in let g = c.in-Base.is in
    λ _. (pushed c.args.recording.now c.args.txn c.args.place c.in-Read.span c.in-Base.span c.in_ok-span.field-0
    c.ops_of-ops.result.now
    c.args.views.now.items c.push.new.self.items c.ops_of-ops.ensures.are c.requires.ok c.in-Read.is b g d
    c.requires.only).1)
