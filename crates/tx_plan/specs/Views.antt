-- What a request sees of its key, and when that is true of the cells.
use Rattle.std.specs.Prelude.{◌≡◌, ◌≢◌, ℕ, List, ◌∷◌, Option, MatchOption, option_map}
use Rattle.tx_types.specs.Kinds.{kind_of}
use Rattle.tx_types.specs.declared.key.Key.{Key}
use Rattle.tx_types.specs.declared.lock.LockInfo.{LockInfo}
use Rattle.tx_plan.specs.declared.view.RecordHead.{RecordHead}
use Rattle.tx_plan.specs.declared.view.RecordHead.TheVariants as head
use Rattle.tx_plan.specs.declared.view.LockHead.{LockHead}
use Rattle.tx_plan.specs.declared.view.CommitAt.{CommitAt}
use Rattle.tx_plan.specs.declared.view.TxnView.{TxnView}
use Rattle.tx_plan.specs.declared.view.ReadView.{ReadView}
use Rattle.tx_plan.specs.Cells.{Lock, Write, CommitOf, Rollback, Cells, info_of}
use Rattle.tx_plan.specs.Own.{OwnLock, OwnCommit}
use Rattle.tx_plan.specs.Reads.{Blocks, Reads}
use Rattle.tx_plan.specs.Walks.{KeyRow, LockRow}
use Rattle.tx_plan.specs.cases.Prewrite.{SomeAbove, NewestAbove}

-- what is asked of a write record, and of a lock
abbrev pub head_of : Write → RecordHead
head_of (CommitOf rec) = head.Commit (kind_of rec.mutation) rec.start rec.overlapped_rollback
head_of Rollback = head.Rollback

abbrev pub lock_head_of : Lock → LockHead
lock_head_of lock = record {
  start = lock.start;
  min = lock.min;
  ttl = lock.ttl;
  kind = kind_of lock.mutation;
  mode = lock.mode;
}

-- a transaction that started at start, with a request that commits at commit, sees this of a key
pub record Shows (cells : Cells) (start commit : ℕ) (view : TxnView) : Type 0 where
  pub lock : view.lock ≡ option_map lock_head_of cells.lock
  pub at_start : view.at_start ≡ option_map head_of (cells.write start)
  pub at_commit : view.at_commit ≡ option_map head_of (cells.write commit)
  pub own_commit : MatchOption view.own_commit ((c : ℕ) → OwnCommit cells.write start c
      → ⊥) (λ c. OwnCommit cells.write start c)
  pub newest : MatchOption view.newest_above (SomeAbove cells.write start
      → ⊥) (λ (at : CommitAt). NewestAbove cells.write start at.start at.commit)

-- a read at a timestamp sees this of a key
pub record ShowsRead (cells : Cells) (at : ℕ) (view : ReadView) : Type 0 where
  pub lock : view.lock ≡ option_map lock_head_of cells.lock
  pub value : Reads cells.write at view.value

-- this is the head of the lock of the transaction that started at t
pub record HasOwnHead (found : Option Lock) (t : ℕ) (head : LockHead) : Type 0 where
  pub lock : Lock
  pub stands : OwnLock found t lock
  pub shown : head ≡ lock_head_of lock

-- a lock blocks a read at r that passes these transactions by
abbrev pub IsBlocked : Option Lock → ℕ → List ℕ → Type 0
IsBlocked found r bypass = (lock : Lock) × Blocks found r bypass lock

-- what is told of the lock on a key, where there is one
abbrev pub info_on : Cells → Key → Option LockInfo
info_on cells key = option_map (info_of key) cells.lock

-- one key has these cells afterwards, and all others have what they had
pub record OnlyOn (key : Key) (on_key : Cells) (before after : Key → Cells) : Type 0 where
  pub here : after key ≡ on_key
  pub others : (k : Key) → k ≢ key → after k ≡ before k

-- the first row is of this key, of which a read at a timestamp sees this, and the others
-- are still to come
pub record ComesNext (rows rest : List KeyRow) (at : ℕ) (key : Key) (view : ReadView) : Type 0 where
  pub cells : Cells
  pub first : rows ≡ (record { key = key; cells = cells }) ∷ rest
  pub shows : ShowsRead cells at view

-- the first row is of this key, its lock has this head, and the others are still to come
pub record LockComesNext (rows rest : List LockRow) (key : Key) (head : LockHead) : Type 0 where
  pub lock : Lock
  pub first : rows ≡ (record { key = key; lock = lock }) ∷ rest
  pub shown : head ≡ lock_head_of lock
