-- Histories whose versions have an order, and what makes one snapshot isolation. Transactions and
-- keys are numbers. The versions of a key are counted from 1; 0 is the key before its first
-- version.
use Rattle.std.specs.Prelude.{ℕ, ◌+◌, ◌<◌, ◌≤◌, List, Contains}
use Rattle.tx_history.specs.declared.recorded.Read.{Read}
use Rattle.tx_history.specs.declared.recorded.After.{After}

-- How many transactions there are, how many versions each key has, who wrote each, what was read,
-- and which transaction is known to have begun after another had ended.
pub record History : Type 0 where
  pub txns : ℕ
  pub count : ℕ → ℕ
  pub writer : ℕ → ℕ → ℕ
  pub reads : List Read
  pub after : List After

-- k has a version i
abbrev pub HasVersion : History → ℕ → ℕ → Type 0
HasVersion h k i = (1 ≤ i) × (i ≤ h.count k)

-- each version was written by one of the transactions
abbrev pub AreWritten : History → Type 0
AreWritten h = (k i : ℕ) → HasVersion h k i → h.writer k i < h.txns

-- Timestamps under which the history is snapshot isolation: each transaction commits above its
-- start; of two that write one key the earlier version is committed at or below the start of the
-- other; what is read is the newest version committed at or below the reader's start; and what is
-- known to come after does.
pub record IsAssignment (h : History) (start commit : ℕ → ℕ) : Type 0 where
  pub above : (t : ℕ) → t < h.txns → start t < commit t
  pub apart : (k i j : ℕ) → HasVersion h k i → HasVersion h k j → i < j → commit (h.writer k i) ≤ start (h.writer k j)
  pub seen : (r : Read) → Contains h.reads r → HasVersion h r.key r.version
      → commit (h.writer r.key r.version) ≤ start r.txn
  pub newest : (r : Read) (j : ℕ) → Contains h.reads r → HasVersion h r.key j → r.version < j
      → start r.txn < commit (h.writer r.key j)
  pub after : (p : After) → Contains h.after p → commit p.earlier ≤ start p.later

-- The graph, by what each of its edges asks of numbers of its nodes, a start and a commit of each
-- transaction. There are as many edges as transactions, writes and reads: only neighbours among
-- versions have one.
pub record Rises (h : History) (starts commits : ℕ → ℕ) : Type 0 where
  pub own : (t : ℕ) → t < h.txns → starts t < commits t
  pub ww : (k i : ℕ) → HasVersion h k i → HasVersion h k (i + 1)
      → commits (h.writer k i) < starts (h.writer k (i + 1))
  pub wr : (r : Read) → Contains h.reads r → HasVersion h r.key r.version
      → commits (h.writer r.key r.version) < starts r.txn
  pub rw : (r : Read) → Contains h.reads r → HasVersion h r.key (r.version + 1)
      → starts r.txn < commits (h.writer r.key (r.version + 1))
  pub after : (p : After) → Contains h.after p → commits p.earlier < starts p.later
