-- What the cells of a key meet, whatever requests they took.
use Rattle.std.specs.Prelude.{◌≡◌, ℕ, ◌<◌, Some}
use Rattle.tx_plan.specs.Cells.{Lock, CommitRecord, CommitOf, Cells}
use Rattle.tx_plan.specs.Own.{OwnCommit}

-- No two of a key's lock and commit records are of one transaction; each commit lies above
-- its start, and so does the minimum of the lock. It takes callers that commit a transaction
-- above its start.
pub record IsSound (cells : Cells) : Type 0 where
  pub uncommitted : (lock : Lock) (c : ℕ) → cells.lock ≡ Some lock → OwnCommit cells.write lock.start c → ⊥
  pub once : (t c d : ℕ) → OwnCommit cells.write t c → OwnCommit cells.write t d → c ≡ d
  pub minimum_above : (lock : Lock) → cells.lock ≡ Some lock → lock.start < lock.min
  pub commit_above : (c : ℕ) (rec : CommitRecord) → cells.write c ≡ Some (CommitOf rec) → rec.start < c
