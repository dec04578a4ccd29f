-- What a recorded history is of.
use Rattle.std.specs.Prelude.{ℕ, ◌+◌, ◌-◌, ◌^◌, ◌<◌, ◌≤◌, List, length, All, slice_index, slice_range}
use Rattle.tx_history.specs.declared.recorded.Read.{Read}
use Rattle.tx_history.specs.declared.recorded.After.{After}
use Rattle.tx_history.specs.declared.recorded.Recorded.{Recorded}
use Rattle.tx_history.specs.Histories.{History}

-- places that do not fall, at most n
pub record AreHeads (heads : List ℕ) (n : ℕ) : Type 0 where
  pub rising : (k : ℕ) → k + 1 < length heads → slice_index heads k ≤ slice_index heads (k + 1)
  pub upto : (k : ℕ) → k < length heads → slice_index heads k ≤ n

-- who wrote each version of a key, none where there is no such key
abbrev pub writers_of : Recorded → ℕ → List ℕ
writers_of r k = slice_range r.writers.items (slice_index r.heads.items k) (slice_index r.heads.items (k + 1))

-- a read by one of the transactions, of a version that there is
abbrev pub IsReadIn : Recorded → Read → Type 0
IsReadIn r s = (s.txn < r.txns) × (s.version ≤ length (writers_of r s.key))

-- of two of so many transactions
abbrev pub IsAmong : ℕ → After → Type 0
IsAmong txns p = (p.earlier < txns) × (p.later < txns)

-- each key's versions lie in their place among the writers, and what is named is there
pub record IsRecorded (r : Recorded) : Type 0 where
  pub few : r.txns < 2 ^ 31
  pub places : AreHeads r.heads.items (length r.writers.items)
  pub writers : All (λ w. w < r.txns) r.writers.items
  pub reads : All (IsReadIn r) r.reads.items
  pub after : All (IsAmong r.txns) r.after.items

abbrev pub history_of : Recorded → History
history_of r = record {
  txns = r.txns;
  count = λ k. length (writers_of r k);
  writer = λ k i. slice_index (writers_of r k) (i - 1);
  reads = r.reads.items;
  after = r.after.items;
}
