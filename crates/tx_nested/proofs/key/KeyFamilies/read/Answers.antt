use Rattle.std.proofs.Common.{◌∙◌}
use Rattle.tx_nested.specs.Nested.{held}
use Rattle.tx_cells.proofs.RecordCells.{lock_heads}
use Rattle.tx_nested.proofs.key.KeyFamilies.read.Goals as goal

pub returns-clause-shows : goal.returns-clause-shows
returns-clause-shows c = record {
  lock = c.lock_head-lock.ensures ∙ lock_heads (held c.args.self.now).value c.args.self.now.lock;
  value = c.in_ok-value.ensures.value;
}
