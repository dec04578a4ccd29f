-- What is shown of a key, as JSON.
use Rattle.std.specs.Prelude.{ℕ, codes, map, Bool, true, false, Option, Some, None}
use Rattle.serde_json.specs.Data.{Data, Items, no_items, item, string, array, null}
use Rattle.serde_json.specs.View.{items_of}
use Rattle.tx_plan.specs.declared.view.LockHead.{LockHead}
use Rattle.tx_plan.specs.declared.view.RecordHead.{RecordHead}
use Rattle.tx_plan.specs.declared.view.RecordHead.TheVariants as head
use Rattle.tx_cells.specs.declared.copies.RecordAt.{RecordAt}
use Rattle.tx_cells.specs.declared.copies.KeyVersions.{KeyVersions}
use Rattle.tx_text.specs.Members.{stamp_data}
use Rattle.tx_reply.specs.Words.{mode_word, kind_word}

-- a lock: its kind, its start, its minimum and its mode
abbrev pub head_data : LockHead → Data
head_data lock = array (item (string (kind_word lock.kind))
    (item (stamp_data lock.start) (item (stamp_data lock.min) (item (string (mode_word lock.mode)) no_items))))

-- the lock of a key, null where there is none
abbrev pub lock_data : Option LockHead → Data
lock_data None = null
lock_data (Some lock) = head_data lock

-- whether another transaction's rollback shares the record's cell
abbrev pub marks : Bool → Items
marks true = item (string (codes "marked")) no_items
marks false = no_items

-- a write record at a timestamp: its kind and its start. A rollback stands at its
-- transaction's start
abbrev pub record_words : ℕ → RecordHead → Items
record_words at (head.Commit kind start overlapped) =
    item (string (kind_word kind)) (item (stamp_data start) (marks overlapped))
record_words at head.Rollback = item (string (codes "rollback")) (item (stamp_data at) no_items)

-- the timestamp before them
abbrev pub record_data : RecordAt → Data
record_data rec = array (item (stamp_data rec.at) (record_words rec.at rec.head))

-- the lock, the write records from the newest on, and the starts of the values that are kept apart,
-- from the newest on
abbrev pub copy_words : KeyVersions → Items
copy_words copy = item (lock_data copy.lock)
    (item (array (items_of (map record_data copy.records)))
    (item (array (items_of (map stamp_data copy.values))) no_items))
