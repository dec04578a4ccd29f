use Rattle.std.proofs.Common.{◌≡◌, ℕ, sym, ap, subst, ◌∙◌}
use Rattle.std.specs.Prelude.{OnOk}
use Rattle.tx_types.specs.declared.key.Key.{Key}
use Rattle.tx_plan.specs.declared.body.Body.{Body}
use Rattle.tx_plan.specs.declared.body.Body.TheVariants.{Prewrite}
use Rattle.tx_plan.specs.Cells.{Cells, with_cells}
use Rattle.tx_core.specs.LastChanges.{NotesAll}
use Rattle.tx_region.specs.Copies.{key_in, made, MayMake}
use Rattle.tx_region.specs.Regions.{region_of}
use Rattle.tx_region.proofs.Basics.{on_ok_both, on_ok_three}
use Rattle.tx_region.proofs.PlanEffects.{region_put, made_other, may_other}
use Rattle.tx_region.proofs.Notes.{notes_change}
use Rattle.tx_region.proofs.records.Records.change.Goals as goal

pub put-requires : goal.put-requires
put-requires g c =
    let content = g.F.Holds.content in
    let s = c.args.self.now in
    let is : c.args.body.now ≡ Prewrite c.asked.result.now = c.in-Prewrite.is
    ∙ ap (λ b. Prewrite b) (sym c.asked.ensures) in
    let of : c.args.key.now ≡ c.asked.result.now.key = c.requires.of ∙ ap key_in is in
    record {
      of = of;
      can = subst (λ (x : Key × Body). MayMake x.1 ((region_of content s 0).cells x.0) c.args.change)
          (λ i. (of i, is i)) c.requires.may;
    }

pub returns-in-Prewrite-clause-ok : goal.returns-in-Prewrite-clause-ok
returns-in-Prewrite-clause-ok g c =
    let content = g.F.Holds.content in
    let s = c.args.self.now in
    let is : c.args.body.now ≡ Prewrite c.asked.result.now = c.in-Prewrite.is
    ∙ ap (λ b. Prewrite b) (sym c.asked.ensures) in
    let of : c.args.key.now ≡ c.asked.result.now.key = c.requires.of ∙ ap key_in is in
    subst (λ (x : Key × Body). OnOk c.put.result ((n : ℕ) → region_of content c.put.new.self n
    ≡ with_cells (region_of content s n) x.0 (made x.1 ((region_of content s n).cells x.0) c.args.change)))
    (λ i. (sym of i, sym is i)) c.put.ensures.ok

pub apply-requires : goal.apply-requires
apply-requires g c =
    let cells = (region_of g.F.Holds.content c.args.self.now 0).cells c.args.key.now in
    (may_other cells c.args.change c.args.body.now c.in_default.not-Prewrite c.requires.may).0

pub returns-in_default-clause-ok : goal.returns-in_default-clause-ok
returns-in_default-clause-ok g c =
    let content = g.F.Holds.content in
    let s = c.args.self.now in
    on_ok_both c.apply.result _ _ _ (λ only cells n.
    region_put (content s.families) (content c.apply.new.self) n s.safe s.collected c.args.key.now _ _ only cells
    ∙ ap (λ (z : Cells). with_cells (region_of content s n) c.args.key.now z)
    (sym (made_other ((region_of content s n).cells c.args.key.now) c.args.change c.args.body.now
    c.in_default.not-Prewrite)))
    c.apply.ensures.content c.apply.ensures.cells

pub returns-in_default-clause-notes : goal.returns-in_default-clause-notes
returns-in_default-clause-notes g c =
    let content = g.F.Holds.content in
    let numbers = g.F.Holds.numbers in
    let s = c.args.self.now in
    let may = may_other ((region_of content s 0).cells c.args.key.now) c.args.change c.args.body.now
    c.in_default.not-Prewrite c.requires.may in
    on_ok_three c.apply.result _ _ _ _ (λ only cells note more.
    notes_change (content s.families) (content c.apply.new.self) (numbers s.families) (numbers c.apply.new.self)
    c.args.key.now _ s.taken c.args.number only c.args.change cells may.0 may.1 note more)
    c.apply.ensures.content c.apply.ensures.cells c.apply.ensures.noted
