use Rattle.tx_nested.specs.Nested.{held}
use Rattle.tx_cells.proofs.Facts.{dated}
use Rattle.tx_cells.proofs.RecordCells.{shown_past}
use Rattle.tx_nested.proofs.key.KeyFamilies.view.Goals as goal

pub returns-then-is_past : goal.returns-then-is_past
returns-then-is_past c =
    let x = held c.args.self.now in
    shown_past x c.args.start c.args.commit c.lock_head-lock.result (dated x c.args.self.now.whole)
    (c.is_past.ensures.start c.if-is_past.true) (c.is_past.ensures.commit c.if-is_past.true)
    c.lock_head-lock.ensures
