use Rattle.std.proofs.Common.{sym, ap, subst, ◌∙◌}
use Rattle.std.specs.Prelude.{IfSome}
use Rattle.tx_plan.specs.declared.key_change.KeyChange.{KeyChange}
use Rattle.tx_plan.specs.Cells.{with_cells}
use Rattle.tx_plan.specs.Changes.{new_lock, after_put, CanPut}
use Rattle.tx_region.specs.Regions.{region_of}
use Rattle.tx_region.proofs.Basics.{on_ok_both, on_ok_three}
use Rattle.tx_region.proofs.PlanEffects.{region_put}
use Rattle.tx_region.proofs.Notes.{notes_put}
use Rattle.tx_region.proofs.records.Records.put.Goals as goal

pub returns-in-Lock-clause-ok : goal.returns-in-Lock-clause-ok
returns-in-Lock-clause-ok g c =
    let content = g.F.Holds.content in
    let s = c.args.self.now in
    let b = c.args.body.now in
    let before = region_of content s 0 in
    on_ok_both c.put_lock.result _ _ _ (λ only cells n.
    region_put (content s.families) (content c.put_lock.new.self) n s.safe s.collected b.key _ _ only cells
    ∙ ap (λ (change : KeyChange). with_cells (region_of content s n) b.key
    (after_put (before.cells b.key) b (new_lock change))) (sym c.in-Lock.is)) c.put_lock.ensures.content
    c.put_lock.ensures.cells

pub returns-in-Lock-clause-notes : goal.returns-in-Lock-clause-notes
returns-in-Lock-clause-notes g c =
    let content = g.F.Holds.content in
    let numbers = g.F.Holds.numbers in
    let s = c.args.self.now in
    let b = c.args.body.now in
    let before = region_of content s 0 in
    let can : CanPut (before.cells b.key) b c.in-Lock.new =
    subst (λ ch. IfSome (new_lock ch) (λ new. CanPut (before.cells b.key) b new)) c.in-Lock.is c.requires.can in
    on_ok_three c.put_lock.result _ _ _ _ (λ only cells note more.
    notes_put (content s.families) (content c.put_lock.new.self) (numbers s.families) (numbers c.put_lock.new.self)
    b.key _ s.taken c.args.number only b c.in-Lock.new cells can note more) c.put_lock.ensures.content
    c.put_lock.ensures.cells c.put_lock.ensures.noted
