-- What a transaction that is lent finds where it reads.
use Rattle.std.specs.Prelude.{◌≡◌, ◌<◌, ◌≤◌, ℕ, cond, List, [], ◌∷◌, reverse, take, Option, Some, None, Err, IfSome}
use Rattle.tx_types.specs.declared.key.Key.{Key}
use Rattle.tx_types.specs.declared.value.Value.{Value}
use Rattle.tx_types.specs.declared.mutation.KeyValue.{KeyValue}
use Rattle.tx_types.specs.declared.mutation.Mutation.{Mutation}
use Rattle.tx_types.specs.declared.mutation.Mutation.TheVariants as mutation
use Rattle.tx_types.specs.Keys.{is_scanned}
use Rattle.tx_plan.specs.declared.answer.Answer.{Answer}
use Rattle.tx_plan.specs.declared.answer.Answer.TheVariants as answer
use Rattle.tx_machine.specs.Machine.{Sees, SeesRows, table_of}
use Rattle.tx_core.specs.Histories.{History, last, Begins}
use Rattle.tx_core.specs.Shadow.{shadow}
use Rattle.tx_core.specs.Worlds.{IsWorldRun}
use Rattle.tx_journal.specs.declared.sender.Lost.{Lost}
use Rattle.tx_journal.specs.Replies.{Asked}
use Rattle.tx_journal.specs.Senders.{Reached}
use Rattle.tx_transaction.specs.declared.state.Miss.{Miss}
use Rattle.tx_transaction.specs.declared.state.Miss.TheVariants as miss
use Rattle.tx_transaction.specs.Buffers.{Entries, buffered, is_known}
use Rattle.tx_client.specs.Calls.{Seated}
use Rattle.tx_reader.specs.Readers.{IsReadAt, WasAnsweredAt}
use Rattle.tx_laws.specs.Scans.{scan_at}
use Rattle.tx_laws.specs.Rows.{AreRowsOf}
use Rattle.tx_update.specs.Ranges.{is_in_range}

-- What a read of a key finds, by what was entered of it: a value that was put or inserted, none
-- where it was deleted; else what the one-step machine sees there at the start.
abbrev pub Finds : Option Mutation → History → ℕ → Key → Option Value → Type 0
Finds (Some (mutation.Put v)) h start key found = found ≡ Some v
Finds (Some (mutation.Insert v)) h start key found = found ≡ Some v
Finds (Some mutation.Delete) h start key found = found ≡ None
Finds _ h start key found = Sees (table_of (shadow h)).row key start found

-- the rows of a range are those that the one-step machine sees there at the start
abbrev pub FindsRows : History → ℕ → Key → Key → ℕ → List KeyValue → Type 0
FindsRows h start from to limit rows = SeesRows (table_of (shadow h)).row (scan_at start from to limit rows)

-- what an answer to a read of a key finds, where it finds anything
abbrev pub AnswersRead : Option Mutation → History → ℕ → Key → Answer → Type 0
AnswersRead entered h start key (answer.Found v) = Finds entered h start key (Some v)
AnswersRead entered h start key answer.Nothing = Finds entered h start key None
AnswersRead entered h start key _ = Unit {0}

-- the same in each world run that begins with what is known
pub record AnswersReadOn (bounds : List Key) (entered : Option Mutation) (known : History) (start : ℕ) (key : Key)
    (a : Answer) : Type 0 where
  pub later : (h : History) → Begins known h → IsWorldRun bounds h → AnswersRead entered h start key a

-- what a read of a key finds, in each such run
abbrev pub FindsOn : List Key → Option Mutation → History → ℕ → Key → Option Value → Type 0
FindsOn bounds entered known start key found =
    (h : History) → Begins known h → IsWorldRun bounds h → Finds entered h start key found

-- the values of some keys, in their order, are each what a read of the key finds
abbrev pub FindsEach : Entries → History → ℕ → List Key → List (Option Value) → Type 0
FindsEach entries h start [] [] = Unit {0}
FindsEach entries h start (k ∷ ks) (found ∷ more) =
    Finds (buffered entries k) h start k found × FindsEach entries h start ks more
FindsEach entries h start _ _ = ⊥

-- the same in each world run that begins with what is known
abbrev pub FindsEachOn : List Key → Entries → History → ℕ → List Key → List (Option Value) → Type 0
FindsEachOn bounds entries known start keys found =
    (h : History) → Begins known h → IsWorldRun bounds h → FindsEach entries h start keys found

-- what an answer to a scan finds, where it finds anything
abbrev pub AnswersScan : History → ℕ → Key → Key → ℕ → Answer → Type 0
AnswersScan h start from to limit (answer.Rows rows) = FindsRows h start from to limit rows
AnswersScan h start from to limit _ = Unit {0}

-- a way to the regions may lose a read at a timestamp, or its reply
abbrev pub LosesRead : {S : Type 0} → (S → Asked → Reached → S → Type 0) → ℕ → Type 0
LosesRead {S} sends at = (from : S) × (q : Asked) × (l : Lost) × (to : S) × IsReadAt at q.body
    × sends from q (Err l) to

-- why a read at the start has no answer: it may be lost on its way, or memory was refused
abbrev pub IsReadMiss : (ℕ → Type 0) → ℕ → Miss → Type 0
IsReadMiss loses start miss.Lost = loses start
IsReadMiss loses start miss.Fault = Unit {0}

-- The answers that a read of a key at the start may have: a value, none, a lock of that key in the
-- way, or a safe point above the start. A read at the start was answered so, in what is known then,
-- where nothing is found.
abbrev pub IsGetAnswer : History → ℕ → Key → Answer → Type 0
IsGetAnswer h start key (answer.Found v) = Unit {0}
IsGetAnswer h start key answer.Nothing = Unit {0}
IsGetAnswer h start key (answer.KeyIsLocked info) = (info.key ≡ key)
    × WasAnsweredAt h start (answer.KeyIsLocked info)
IsGetAnswer h start key (answer.BelowSafePoint safe) = (start < safe)
    × WasAnsweredAt h start (answer.BelowSafePoint safe)
IsGetAnswer h start key _ = ⊥

-- the answers that a scan at the start may have: rows, or what a read of a key may have where it
-- finds nothing, but that the lock is of any key
abbrev pub IsScanAnswer : History → ℕ → Answer → Type 0
IsScanAnswer h start (answer.Rows rows) = Unit {0}
IsScanAnswer h start (answer.KeyIsLocked info) = WasAnsweredAt h start (answer.KeyIsLocked info)
IsScanAnswer h start (answer.BelowSafePoint safe) = (start < safe)
    × WasAnsweredAt h start (answer.BelowSafePoint safe)
IsScanAnswer h start _ = ⊥

-- where an answer to a read at the start tells of a lock in the way, a read there was answered so;
-- the lock is on the key that was read, where that is one
abbrev pub TellsLock : History → ℕ → Option Key → Answer → Type 0
TellsLock h start named (answer.KeyIsLocked info) = IfSome named (λ key. info.key ≡ key)
    × WasAnsweredAt h start (answer.KeyIsLocked info)
TellsLock h start named _ = Unit {0}

-- the seat of a session has seen its start drawn: it lies at or below the last number drawn
abbrev pub HasSeenStart : Seated → Type 0
HasSeenStart s = s.state.start ≤ last s.seat.events

-- The rows of a range of any number of keys, with what was entered over what the one-step machine
-- sees there at the start: of each key of it they tell what a read of that key finds.
abbrev pub FindsRange : Entries → History → ℕ → Option Key → Option Key → List KeyValue → Type 0
FindsRange entries h start from to rows =
    AreRowsOf (is_in_range from to) (λ k found. Finds (buffered entries k) h start k found) rows

-- the last of these rows, so many at most, told from the end
abbrev pub FindsLast : Entries → History → ℕ → Option Key → Option Key → ℕ → List KeyValue → Type 0
FindsLast entries h start from to limit rows =
    (all : List KeyValue) × FindsRange entries h start from to all × (rows ≡ take limit (reverse all))

-- what the one-step machine sees at a key at the start, where no put, insert or delete of the key
-- lies over it
abbrev pub Beneath : Entries → History → ℕ → Key → Option Value → Type 0
Beneath entries h start k found = cond (is_known (buffered entries k)) (Unit {0})
    (Sees (table_of (shadow h)).row k start found)

-- the one-step machine sees this at a key, in each world run that begins with what is known
abbrev pub SeesOn : List Key → History → ℕ → Key → Option Value → Type 0
SeesOn bounds known start key found =
    (h : History) → Begins known h → IsWorldRun bounds h → Sees (table_of (shadow h)).row key start found

-- the rows that an answer to a scan tells, where it tells any, are seen in each such run
abbrev pub TellsPage : List Key → History → ℕ → Key → Key → ℕ → Answer → Type 0
TellsPage bounds known start from to limit (answer.Rows rows) =
    AreRowsOf (is_scanned from to limit rows) (SeesOn bounds known start) rows
TellsPage bounds known start from to limit _ = Unit {0}
