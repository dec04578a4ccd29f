-- Each view is one of those that are known.
use Rattle.std.proofs.Common.{get_or}
use Rattle.std.proofs.lemmas.List.Elements.{Contains-get_or}
use Rattle.tx_verdict.specs.Versions.{no_view}
use Rattle.tx_verdict.proofs.facts.wrong_views.Goals as goal

pub wrong_view-requires-clause-view : goal.wrong_view-requires-clause-view
wrong_view-requires-clause-view c =
    c.requires.case.views (get_or c.args.case.now.views.now c.loop-i.i no_view)
    (Contains-get_or c.args.case.now.views.now c.loop-i.i no_view c.loop-i-test.true)

pub wrong_again-found-requires-clause-before : goal.wrong_again-found-requires-clause-before
wrong_again-found-requires-clause-before c =
    c.requires.case.views (get_or c.args.case.now.views.now c.in-Some.before no_view)
    (Contains-get_or c.args.case.now.views.now c.in-Some.before no_view c.in-Some.ensures)

pub wrong_again-found-requires-clause-view : goal.wrong_again-found-requires-clause-view
wrong_again-found-requires-clause-view c =
    c.requires.case.views (get_or c.args.case.now.views.now c.loop-i.i no_view)
    (Contains-get_or c.args.case.now.views.now c.loop-i.i no_view c.loop-i-test.true)
