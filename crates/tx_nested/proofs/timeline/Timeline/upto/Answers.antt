-- The entry in the index of the bound is at it, or the one before the index is the last.
use Rattle.std.proofs.Common.{arith, sym, ◌∙◌}
use Rattle.std.specs.Prelude.{slice_get}
use Rattle.tx_nested.proofs.EntryOrder.{is_other}
use Rattle.tx_nested.proofs.Lookups.{held_is, before_found, before_nearest, none_upto, some_map, none_map}
use Rattle.tx_nested.proofs.timeline.Timeline.upto.Goals as goal

pub returns-in-Some-clause-found : goal.returns-in-Some-clause-found
returns-in-Some-clause-found g c = (
  omega arith,
  sym (c.in-Some.ensures
      ∙ held_is c.args.self.now.entries c.args.bound c.index-index.result c.index-index.ensures.ordered
      c.index-index.ensures.index),
)

pub returns-in-None-clause-found : goal.returns-in-None-clause-found
returns-in-None-clause-found g c = some_map c.before-in-None.result
    (λ x h. let found = before_found c.args.self.now.entries c.args.bound c.index-index.result
    c.index-index.ensures.ordered c.index-index.ensures.index (x.0, x.1.now) h in (omega (arith, found.0), found.1))
    c.before-in-None.ensures.entry

pub returns-in-None-clause-nearest : goal.returns-in-None-clause-nearest
returns-in-None-clause-nearest g c =
    let es = c.args.self.now.entries in
    let other = is_other c.args.bound (slice_get es c.index-index.result) (sym c.in-None.ensures) in
    some_map c.before-in-None.result
    (λ x h. before_nearest es c.args.bound c.index-index.result c.index-index.ensures.ordered
    c.index-index.ensures.index (x.0, x.1.now) h other) c.before-in-None.ensures.entry

pub returns-in-None-clause-none : goal.returns-in-None-clause-none
returns-in-None-clause-none g c =
    let es = c.args.self.now.entries in
    let other = is_other c.args.bound (slice_get es c.index-index.result) (sym c.in-None.ensures) in
    none_map c.before-in-None.result
    (λ h. none_upto es c.args.bound c.index-index.result c.index-index.ensures.ordered c.index-index.ensures.index h
    other) c.before-in-None.ensures.none
