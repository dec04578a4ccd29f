-- The view is one of those that are known.
use Rattle.std.proofs.Common.{◌<◌, length, get_or, arith}
use Rattle.std.proofs.lemmas.List.Elements.{Contains-get_or}
use Rattle.tx_verdict.specs.Versions.{no_view}
use Rattle.tx_verdict.proofs.chain.is_based.Goals as goal

pub is_viewed-requires-clause-view : goal.is_viewed-requires-clause-view
is_viewed-requires-clause-view c =
    let views = c.args.case.now.views.now in
    let lt : c.in-View.view < length views = omega arith in
    c.requires.case.views (get_or views c.in-View.view no_view) (Contains-get_or views c.in-View.view no_view lt)

pub is_within-requires-clause-view : goal.is_within-requires-clause-view
is_within-requires-clause-view c =
    let views = c.args.case.now.views.now in
    let lt : c.in-Within.view < length views = omega arith in
    c.requires.case.views (get_or views c.in-Within.view no_view) (Contains-get_or views c.in-Within.view no_view lt)
