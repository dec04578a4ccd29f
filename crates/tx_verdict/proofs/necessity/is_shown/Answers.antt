-- The value that was seen is the transaction's.
use Rattle.std.proofs.Common.{get_or}
use Rattle.std.proofs.lemmas.List.Elements.{Contains-get_or}
use Rattle.tx_verdict.specs.Versions.{no_view}
use Rattle.tx_verdict.proofs.Views.{shown_by}
use Rattle.tx_verdict.proofs.necessity.is_shown.Goals as goal

pub returns : goal.returns
returns c is =
    let views = c.args.case.now.views.now in
    let i = c.args.shown.view in
    let v = get_or views i no_view in
    shown_by c.args.case.now.recording.now c.args.case.now.owners.now v c.list_of-list.result.now
    c.args.shown.place c.args.txn
    c.requires.case.owners
    (c.requires.case.views v (Contains-get_or views i no_view c.if-shown-case.false)) c.list_of-list.ensures
    c.if-shown-list.false
    (c.is_by.ensures is)

pub list_of-list-requires : goal.list_of-list-requires
list_of-list-requires c =
    (c.requires.case.views (get_or c.args.case.now.views.now c.args.shown.view no_view)
    (Contains-get_or c.args.case.now.views.now c.args.shown.view no_view c.if-shown-case.false)).0
