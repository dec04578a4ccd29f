-- A view of the recording.
use Rattle.std.proofs.Common.{get_or, arith}
use Rattle.std.proofs.lemmas.List.Elements.{Contains-get_or}
use Rattle.tx_verdict.specs.Versions.{no_view}
use Rattle.tx_verdict.proofs.ground.is_seen.Goals as goal

pub sees_writer-requires-clause-view : goal.sees_writer-requires-clause-view
sees_writer-requires-clause-view c =
    c.requires.case.views (get_or c.args.case.now.views.now c.args.view no_view)
    (Contains-get_or c.args.case.now.views.now c.args.view no_view (grind (arith, c.if-view-case.false)))
