-- What a read finds on a key, and which locks stop it.
use Rattle.std.specs.Prelude.{◌≡◌, ℕ, ◌<◌, ◌≤◌, max, Bool, List, Option, Some, None, Contains, IsTrue}
use Rattle.tx_types.specs.declared.key.Key.{Key}
use Rattle.tx_types.specs.declared.value.Value.{Value}
use Rattle.tx_types.specs.declared.mutation.KeyValue.{KeyValue}
use Rattle.tx_types.specs.declared.mutation.Mutation.TheVariants.{Put}
use Rattle.tx_plan.specs.declared.body.Scan.{Scan}
use Rattle.tx_plan.specs.declared.answer.Answer.{Answer}
use Rattle.tx_plan.specs.declared.answer.Answer.TheVariants.{Found, Nothing, Rows, KeyIsLocked}
use Rattle.tx_types.specs.Keys.{is_between, IsRising, value_in, is_scanned, IsVisible}
use Rattle.tx_plan.specs.Cells.{Lock, CommitRecord, CommitOf, Writes, Cells}

-- a lock blocks a read at r where it puts or deletes, its minimum is at most r, and its transaction
-- is not passed by
pub record Blocks (standing : Option Lock) (r : ℕ) (bypass : List ℕ) (lock : Lock) : Type 0 where
  pub stands : standing ≡ Some lock
  pub visible : IsVisible lock.mutation
  pub below : lock.min ≤ r
  pub met : Contains bypass lock.start → ⊥

-- no put or delete stands above low and at most at r
abbrev pub NoneWritten : Writes → ℕ → ℕ → Type 0
NoneWritten write low r = (c : ℕ) (rec : CommitRecord) → write c ≡ Some (CommitOf rec) → IsVisible rec.mutation
    → low < c → c ≤ r → ⊥

-- the newest put or delete at most at r puts the value v
pub record Finds (write : Writes) (r : ℕ) (v : Value) : Type 0 where
  pub at : ℕ
  pub rec : CommitRecord
  pub stands : write at ≡ Some (CommitOf rec)
  pub puts : rec.mutation ≡ Put v
  pub upto : at ≤ r
  pub newest : NoneWritten write at r

-- what an unblocked read at r gives: the value that it finds, or none where the newest is no put
abbrev pub Reads : Writes → ℕ → Option Value → Type 0
Reads write r (Some v) = Finds write r v
Reads write r None = (v : Value) → Finds write r v → ⊥

-- the answer to a read that gave this
abbrev pub read_answer : Option Value → Answer
read_answer (Some v) = Found v
read_answer None = Nothing

-- a scan's range
abbrev pub in_range : Scan → Key → Bool
in_range b k = is_between b.from b.to k

-- the keys that a scan covers: its range, or where the limit ended it the part up to the last row
abbrev pub covered : Scan → List KeyValue → Key → Bool
covered b rows k = is_scanned b.from b.to b.limit rows k

-- some keys were walked: no lock blocks there, and the rows, in order, are what reads of them give
pub record Walked (cells : Key → Cells) (r : ℕ) (bypass : List ℕ) (within : Key
    → Bool) (rows : List KeyValue) : Type 0 where
  pub rising : IsRising rows
  pub inside : (k : Key) (v : Value) → value_in rows k ≡ Some v → IsTrue (within k)
  pub free : (k : Key) (lock : Lock) → IsTrue (within k) → Blocks (cells k).lock r bypass lock → ⊥
  pub read : (k : Key) → IsTrue (within k) → Reads (cells k).write r (value_in rows k)

-- the greatest timestamp read, after an answer to a read at r: one that a lock stopped counts, one
-- refused by its timestamp does not
abbrev pub raised : Answer → ℕ → ℕ → ℕ
raised (Found v) r max_read = max max_read r
raised Nothing r max_read = max max_read r
raised (Rows rows) r max_read = max max_read r
raised (KeyIsLocked info) r max_read = max max_read r
raised _ r max_read = max_read
