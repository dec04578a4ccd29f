-- Each view is one of those that are known.
use Rattle.std.proofs.Common.{get_or, sym, ◌∙◌}
use Rattle.std.proofs.lemmas.List.Elements.{Contains-get_or}
use Rattle.tx_verdict.specs.Versions.{no_view}
use Rattle.tx_verdict.proofs.lists.wrong_orders.Goals as goal

pub wrong_order-found-requires-clause-view : goal.wrong_order-found-requires-clause-view
wrong_order-found-requires-clause-view c =
    c.requires.case.views (get_or c.args.case.now.views.now c.loop-i.i no_view)
    (Contains-get_or c.args.case.now.views.now c.loop-i.i no_view c.loop-i-test.true)

pub wrong_order-found-requires-clause-other : goal.wrong_order-found-requires-clause-other
wrong_order-found-requires-clause-other c =
    c.requires.case.views (get_or c.args.case.now.views.now c.in-Some.other no_view)
    (Contains-get_or c.args.case.now.views.now c.in-Some.other no_view c.in-Some.ensures)

pub wrong_order-found-requires-clause-list : goal.wrong_order-found-requires-clause-list
wrong_order-found-requires-clause-list c =
    c.requires.lists.holds (get_or c.args.case.now.views.now c.loop-i.i no_view).key
    (sym c.holds_list.ensures ∙ c.if-not-holds_list.false)
