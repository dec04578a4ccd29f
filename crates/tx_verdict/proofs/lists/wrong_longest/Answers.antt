-- The view is one of those that are known.
use Rattle.std.proofs.Common.{get_or}
use Rattle.std.proofs.lemmas.List.Elements.{Contains-get_or}
use Rattle.tx_verdict.specs.Versions.{no_view}
use Rattle.tx_verdict.proofs.lists.wrong_longest.Goals as goal

pub wrong_twice-found-requires-clause-view : goal.wrong_twice-found-requires-clause-view
wrong_twice-found-requires-clause-view c =
    c.requires.case.views (get_or c.args.case.now.views.now c.in-Some.place no_view)
    (Contains-get_or c.args.case.now.views.now c.in-Some.place no_view c.in-Some.ensures)

pub wrong_blocks-requires-clause-view : goal.wrong_blocks-requires-clause-view
wrong_blocks-requires-clause-view c =
    c.requires.case.views (get_or c.args.case.now.views.now c.in-Some.place no_view)
    (Contains-get_or c.args.case.now.views.now c.in-Some.place no_view c.in-Some.ensures)
