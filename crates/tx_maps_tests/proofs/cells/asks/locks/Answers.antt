use Rattle.std.proofs.Common.{subst, sym, IfSome}
use Rattle.tx_types.specs.declared.key.Key.{Key}
use Rattle.tx_plan.specs.declared.key_change.KeyChange.{KeyChange}
use Rattle.tx_plan.specs.Changes.{new_lock, CanPut}
use Rattle.tx_plan.specs.Views.{Shows}
use Rattle.tx_cells.specs.Contents.{cells_of}
use Rattle.tx_maps_tests.proofs.cells.asks.locks.Goals as goal

-- the plan's lock can be put
pub put_lock-requires : goal.put_lock-requires
put_lock-requires g c =
    let b = c.args.body.now in
    let content = g.F.Holds.content c.args.families.now in
    let shows = subst (λ (k : Key). Shows (cells_of (content k)) b.start b.start c.in_ok-view.view)
    c.in_ok-key.ensures.ok c.in_ok-view.ensures.shows in
    record {
      of = c.in_ok-key.ensures.ok;
      can = subst (λ (change : KeyChange). IfSome (new_lock change) (λ new. CanPut (cells_of (content b.key)) b new))
          (sym c.change_of.ensures)
          (c.plan_prewrite-planned.ensures.applies (cells_of (content b.key)) b.start shows);
    }
