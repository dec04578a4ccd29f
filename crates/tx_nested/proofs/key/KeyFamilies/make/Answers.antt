use Rattle.tx_plan.specs.declared.key_change.KeyChange.TheVariants as change
use Rattle.tx_nested.specs.Nested.{held}
use Rattle.tx_cells.proofs.Facts.{cells_made, on_ok}
use Rattle.tx_nested.proofs.key.KeyFamilies.make.Goals as goal

pub returns-in-Ttl-clause-cells : goal.returns-in-Ttl-clause-cells
returns-in-Ttl-clause-cells c =
    cells_made (held c.args.self.now) (held c.set_ttl.new.self) c.args.change (change.Ttl c.in-Ttl.ttl)
    c.args.self.now.whole c.requires c.in-Ttl.is c.set_ttl.ensures.set

pub returns-in-Minimum-clause-cells : goal.returns-in-Minimum-clause-cells
returns-in-Minimum-clause-cells c =
    cells_made (held c.args.self.now) (held c.set_minimum.new.self) c.args.change (change.Minimum c.in-Minimum.min)
    c.args.self.now.whole c.requires c.in-Minimum.is c.set_minimum.ensures.set

pub returns-in-Commit-clause-cells : goal.returns-in-Commit-clause-cells
returns-in-Commit-clause-cells c =
    on_ok c.commit.result _ _
    (cells_made (held c.args.self.now) (held c.commit.new.self) c.args.change
    (change.Commit c.in-Commit.commit c.in-Commit.overlapped_rollback) c.args.self.now.whole c.requires
    c.in-Commit.is) c.commit.ensures.ok

pub returns-in-RollBack-clause-cells : goal.returns-in-RollBack-clause-cells
returns-in-RollBack-clause-cells c =
    on_ok c.roll_back.result _ _
    (cells_made (held c.args.self.now) (held c.roll_back.new.self) c.args.change
    (change.RollBack c.in-RollBack.start c.in-RollBack.removes_lock c.in-RollBack.left) c.args.self.now.whole
    c.requires c.in-RollBack.is) c.roll_back.ensures.ok
