use Rattle.std.proofs.Common.{◌≡◌}
use Rattle.tx_cells.specs.declared.copies.RecordAt.{RecordAt}
use Rattle.tx_cells.specs.Copies.{times_of}
use Rattle.tx_cells.proofs.NewestFirst.{Down, IsHead}
use Rattle.tx_cells.proofs.copies.records_down.Given as goal

abbrev pub invariant-records : goal.invariant-records
invariant-records g l =
    let writes = g.H.History.writes in
    record {
      same : writes l.history ≡ writes l.fn.history;
      same_key : g.H.History.key l.history ≡ g.H.History.key l.fn.history;
      down : Down (λ (x : RecordAt). x.at) (IsHead (writes l.fn.history)) l.bound l.records (times_of l.records);
    }

abbrev pub decreases-records : goal.decreases-records
decreases-records g l = l.bound
