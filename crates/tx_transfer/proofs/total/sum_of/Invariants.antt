use Rattle.std.proofs.Common.{◌≡◌, ◌*◌, ◌≤◌, take}
use Rattle.tx_transfer.specs.Totals.{balances_of}
use Rattle.tx_transfer.specs.declared.balance.TheConstants.{BALANCES}
use Rattle.tx_transfer.proofs.total.sum_of.Given as goal

-- the sum of the rows so far, of which each says less than 10^15
abbrev pub invariant-loop-row : goal.invariant-loop-row
invariant-loop-row l = record {
  sum : l.sum ≡ balances_of (take l.row-index l.rows);
  most : l.sum ≤ l.row-index * BALANCES;
}
