-- Both saw the same, and put something there.
use Rattle.std.proofs.Common.{get_or}
use Rattle.std.proofs.lemmas.List.Elements.{Contains-get_or}
use Rattle.tx_views.proofs.ValueOwners.{put_once}
use Rattle.tx_verdict.specs.Versions.{no_view}
use Rattle.tx_verdict.proofs.Refutations.{fact_lost_update}
use Rattle.tx_verdict.proofs.facts.wrong_update.Goals as goal

pub returns : goal.returns
returns c =
    let r = c.args.case.now.recording.now in
    let views = c.args.case.now.views.now in
    let one = get_or views c.args.lost.first no_view in
    let other = get_or views c.args.lost.second no_view in
    fact_lost_update r one other (put_once r c.args.case.now.owners.now c.requires.case.owners)
    (c.requires.case.views one (Contains-get_or views c.args.lost.first no_view c.if-first-case.false))
    (c.requires.case.views other (Contains-get_or views c.args.lost.second no_view c.if-second-case.false))
    c.if-one-other.false c.if-one-other-2.false (c.is_same.ensures c.if-not-is_same.false)
    (c.is_update.ensures c.if-not-is_update.false)
    (c.is_update-2.ensures c.if-not-is_update-2.false)

pub is_same-requires-clause-one : goal.is_same-requires-clause-one
is_same-requires-clause-one c =
    c.requires.case.views (get_or c.args.case.now.views.now c.args.lost.first no_view)
    (Contains-get_or c.args.case.now.views.now c.args.lost.first no_view c.if-first-case.false)

pub is_same-requires-clause-other : goal.is_same-requires-clause-other
is_same-requires-clause-other c =
    c.requires.case.views (get_or c.args.case.now.views.now c.args.lost.second no_view)
    (Contains-get_or c.args.case.now.views.now c.args.lost.second no_view c.if-second-case.false)

pub is_update-requires-clause-view : goal.is_update-requires-clause-view
is_update-requires-clause-view c =
    c.requires.case.views (get_or c.args.case.now.views.now c.args.lost.first no_view)
    (Contains-get_or c.args.case.now.views.now c.args.lost.first no_view c.if-first-case.false)

pub is_update-requires-2-clause-view : goal.is_update-requires-2-clause-view
is_update-requires-2-clause-view c =
    c.requires.case.views (get_or c.args.case.now.views.now c.args.lost.second no_view)
    (Contains-get_or c.args.case.now.views.now c.args.lost.second no_view c.if-second-case.false)
