-- What reads at a timestamp find, and why they stop.
use Rattle.std.specs.Prelude.{◌≡◌, ◌<◌, ◌≤◌, ℕ, List, [], ◌∷◌, reverse, take, Option}
use Rattle.tx_types.specs.declared.key.Key.{Key}
use Rattle.tx_types.specs.declared.value.Value.{Value}
use Rattle.tx_types.specs.declared.lock.LockInfo.{LockInfo}
use Rattle.tx_types.specs.declared.mutation.KeyValue.{KeyValue}
use Rattle.tx_types.specs.declared.fault.Fault.TheVariants as fault
use Rattle.tx_plan.specs.declared.answer.Answer.TheVariants as answer
use Rattle.tx_machine.specs.Machine.{Sees, table_of}
use Rattle.tx_core.specs.Histories.{History, Begins}
use Rattle.tx_core.specs.Shadow.{shadow}
use Rattle.tx_core.specs.Worlds.{IsWorldRun}
use Rattle.tx_laws.specs.Rows.{AreRowsOf}
use Rattle.tx_update.specs.Ranges.{is_in_range}
use Rattle.tx_reader.specs.Readers.{WasAnsweredAt}
use Rattle.tx_update.specs.declared.stops.Stop.{Stop}
use Rattle.tx_update.specs.declared.stops.Stop.TheVariants as stop

-- the rows of a range are those that the one-step machine sees there at a timestamp: they rise,
-- each is of a key of the range, and of each such key they tell what the machine sees
abbrev pub SeesRange : History → ℕ → Option Key → Option Key → List KeyValue → Type 0
SeesRange h at from to rows =
    AreRowsOf (is_in_range from to) (λ k found. Sees (table_of (shadow h)).row k at found) rows

-- the last of these rows, so many at most, told from the end
abbrev pub SeesLast : History → ℕ → Option Key → Option Key → ℕ → List KeyValue → Type 0
SeesLast h at from to limit rows =
    (all : List KeyValue) × SeesRange h at from to all × (rows ≡ take limit (reverse all))

-- the values of some keys, in their order, are those that the one-step machine sees there
abbrev pub SeesEach : History → ℕ → List Key → List (Option Value) → Type 0
SeesEach h at [] [] = Unit {0}
SeesEach h at (k ∷ ks) (found ∷ more) = Sees (table_of (shadow h)).row k at found × SeesEach h at ks more
SeesEach h at _ _ = ⊥

-- the same in each world run that begins with what is known
abbrev pub SeesEachOn : List Key → History → ℕ → List Key → List (Option Value) → Type 0
SeesEachOn bounds known at keys found =
    (h : History) → Begins known h → IsWorldRun bounds h → SeesEach h at keys found

-- Why a read of a view at a timestamp stops, by what is known then, of a client that had seen this
-- number drawn: a read there was answered that a lock is in the way, whose key is told, that the
-- safe point lies above the timestamp, or that the last number that the region had loaded lies
-- below it, and not below what the client had seen; or memory was refused. No reply is lost.
abbrev pub IsViewStop : History → ℕ → ℕ → Stop → Type 0
IsViewStop h seen at (stop.Waits key why) = (info : LockInfo) × (info.key ≡ key)
    × WasAnsweredAt h at (answer.KeyIsLocked info)
IsViewStop h seen at stop.BelowSafePoint = (safe : ℕ) × (at < safe) × WasAnsweredAt h at (answer.BelowSafePoint safe)
IsViewStop h seen at (stop.Refused (fault.FutureTimestamp last)) = (seen ≤ last) × (last < at)
    × WasAnsweredAt h at (answer.FutureTimestamp last)
IsViewStop h seen at (stop.Refused f) = f ≡ fault.OutOfMemory
IsViewStop h seen at _ = ⊥
