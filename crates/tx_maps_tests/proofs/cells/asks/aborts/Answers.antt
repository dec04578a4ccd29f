use Rattle.std.proofs.Common.{subst, sym}
use Rattle.tx_plan.specs.Changes.{Applies}
use Rattle.tx_cells.specs.Contents.{cells_of}
use Rattle.tx_maps_tests.proofs.cells.asks.aborts.Goals as goal

pub apply-requires : goal.apply-requires
apply-requires g c =
    let b = c.args.body.now in
    let cells = cells_of (g.F.Holds.content c.args.families.now c.in_ok-key.key) in
    subst (Applies cells) (sym c.change_of-change.ensures)
    (c.plan_batch_rollback.ensures.applies cells b.start c.in_ok-view.ensures.shows)
