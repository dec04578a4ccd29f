use Rattle.std.proofs.Common.{◌≡◌, length}
use Rattle.tx_nested.specs.Nested.{lock_rows}
use Rattle.tx_nested.proofs.walks.NestedLocksLockWalk.next.Given as goal

abbrev pub invariant-keys : goal.invariant-keys
invariant-keys l = record {
  rows : lock_rows l.fn.self.keys ≡ lock_rows l.self.keys;
  same : l.self.cells.now ≡ l.fn.self.cells.now;
}

abbrev pub decreases-keys : goal.decreases-keys
decreases-keys l = length l.self.keys
