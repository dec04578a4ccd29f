-- Scan: the first keys of a range that have a value at a timestamp.
use Rattle.std.specs.Prelude.{◌≡◌, ◌⊎◌, ℕ, ◌<◌, ◌≤◌, List, length, IsTrue}
use Rattle.tx_types.specs.declared.key.Key.{Key}
use Rattle.tx_types.specs.declared.mutation.KeyValue.{KeyValue}
use Rattle.tx_plan.specs.declared.body.Scan.{Scan}
use Rattle.tx_plan.specs.declared.answer.Answer.{Answer}
use Rattle.tx_plan.specs.declared.answer.Answer.TheVariants.{Rows, KeyIsLocked, BelowSafePoint, FutureTimestamp}
use Rattle.tx_plan.specs.Tables.{Case}
use Rattle.tx_types.specs.Keys.{is_between, is_scanned}
use Rattle.tx_plan.specs.Cells.{Lock, Cells, info_of}
use Rattle.tx_plan.specs.Reads.{Blocks, Walked}

-- The walk ends well: at the end of the range, or with `limit` rows.
pub record GivesRows (cells : Key → Cells) (b : Scan) (a : Answer) : Type 0 where
  pub rows : List KeyValue
  pub answer : a ≡ Rows rows
  pub upto : length rows ≤ b.limit
  pub walked : Walked cells b.at b.bypass (is_scanned b.from b.to b.limit rows) rows

-- The walk ends at a key whose lock blocks it: the keys before it are free and give fewer
-- than `limit` rows.
pub record MeetsLock (cells : Key → Cells) (b : Scan) (a : Answer) : Type 0 where
  pub key : Key
  pub lock : Lock
  pub rows : List KeyValue
  pub answer : a ≡ KeyIsLocked (info_of key lock)
  pub inside : IsTrue (is_between b.from b.to key)
  pub blocks : Blocks (cells key).lock b.at b.bypass lock
  pub before : Walked cells b.at b.bypass (is_between b.from key) rows
  pub below : length rows < b.limit

-- A scan below the safe point or above the last number loaded is refused; else the keys of its
-- range are walked in rising order: a lock that blocks the read ends the walk and there are no
-- rows, a key with a value gives a row, `limit` rows end the walk.
abbrev pub AnswersScan : (Key → Cells) → ℕ → ℕ → Scan → Answer → Type 0
AnswersScan cells safe loaded b a =
    Case (b.at < safe) (a ≡ BelowSafePoint safe)
    (Case (loaded < b.at) (a ≡ FutureTimestamp loaded)
    (MeetsLock cells b a ⊎ GivesRows cells b a))
