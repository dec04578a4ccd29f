use Rattle.std.proofs.Common.{Some, subst}
use Rattle.std.specs.BTreeMap as tree
use Rattle.tx_spelling.specs.Spelt.{version_cmp}
use Rattle.tx_flat.proofs.FlatMaps.{off_version}
use Rattle.tx_flat.proofs.FlatChanges.{VersionChanged}
use Rattle.tx_flat.proofs.apply.leave.Goals as goal

pub returns-in_ok-insert-in-Record-clause-others : goal.returns-in_ok-insert-in-Record-clause-others
returns-in_ok-insert-in-Record-clause-others c =
    let old = tree.get version_cmp c.args.writes.now in
    let new = tree.get version_cmp c.insert.new.self in
    off_version old new c.args.key.now c.args.start (Some c.in_ok-rec-in-Record.rec)
    (subst (λ v. VersionChanged old new v (Some c.in_ok-rec-in-Record.rec)) c.in_ok-version-in-Record.ensures
    c.in_ok-insert-in-Record.ensures.updates.0)

pub returns-in_ok-insert-in-Mark-clause-others : goal.returns-in_ok-insert-in-Mark-clause-others
returns-in_ok-insert-in-Mark-clause-others c =
    let old = tree.get version_cmp c.args.writes.now in
    let new = tree.get version_cmp c.insert-in-Mark.new.self in
    off_version old new c.args.key.now c.args.start (Some c.in_ok-rec-in-Some.rec)
    (subst (λ v. VersionChanged old new v (Some c.in_ok-rec-in-Some.rec)) c.in_ok-version-in-Mark.ensures
    c.in_ok-insert-in-Mark.ensures.updates.0)
