-- What the sum of all balances is of.
use Rattle.std.specs.Prelude.{◌≡◌, ◌≤◌, ◌<◌, ◌+◌, ℕ, [], ◌∷◌, ◌++◌, List, length, Option, Some, None, IsTrue, Result, Ok}
use Rattle.std.specs.List.{sum_by}
use Rattle.tx_types.specs.declared.key.Key.{Key}
use Rattle.tx_types.specs.declared.mutation.KeyValue.{KeyValue}
use Rattle.tx_types.specs.declared.limits.TheConstants.{MAX_SCAN_ROWS}
use Rattle.tx_types.specs.Keys.{key_le, is_between}
use Rattle.tx_plan.specs.declared.answer.Answer.{Answer}
use Rattle.tx_plan.specs.declared.answer.Answer.TheVariants as answer
use Rattle.tx_machine.specs.Machine.{Rows, Sees, SeesRows, table_of}
use Rattle.tx_core.specs.declared.event.Event.TheVariants.{Answered}
use Rattle.tx_core.specs.declared.event.Outcome.TheVariants as outcome
use Rattle.tx_core.specs.Histories.{History, Among, Begins}
use Rattle.tx_core.specs.Shadow.{shadow}
use Rattle.tx_core.specs.Worlds.{IsWorldRun}
use Rattle.tx_transaction.specs.declared.state.Miss.{Miss}
use Rattle.tx_laws.specs.Rows.{AreRowsOf}
use Rattle.tx_laws.specs.Scans.{scan_at}
use Rattle.tx_transfer.specs.Balances.{balance_of}

-- the keys whose balances are summed lie from this one on
abbrev pub least : Key
least = 0 ∷ []

-- and below this one: no text begins with its byte
abbrev pub top : Key
top = 255 ∷ []

-- the sum of the balances that rows say
abbrev pub balances_of : List KeyValue → ℕ
balances_of rows = sum_by (λ row. balance_of row.value) rows

-- A number is the sum of the balances that the one-step machine sees at a timestamp on the keys
-- from one up to but not including another.
abbrev pub IsSumOf : Rows → ℕ → Key → Key → ℕ → Type 0
IsSumOf table at from to sum = (rows : List KeyValue)
    × AreRowsOf (is_between from to) (λ k found. Sees table k at found) rows
    × (sum ≡ balances_of rows)

-- it is that of the keys up to one, in each world run that begins with what is known
abbrev pub SumsTo : List Key → History → ℕ → Key → ℕ → Type 0
SumsTo bounds known at to sum =
    (h : History) → Begins known h → IsWorldRun bounds h → IsSumOf (table_of (shadow h)).row at least to sum

-- A total is the sum of all balances at a timestamp that lies at or above each commit that had been
-- answered before.
pub record IsTotal (bounds : List Key) (before known : History) (total : ℕ) : Type 0 where
  pub at : ℕ
  pub above : (t c : ℕ) → Among before (Answered t (outcome.Committed c)) → c ≤ at
  pub sums : SumsTo bounds known at top total

-- ---- within the crate

-- the sum of the keys up to one is known, from which is read on
pub record HasReadTo (bounds : List Key) (known : History) (at : ℕ) (from : Key) (sum : ℕ) : Type 0 where
  pub up : IsTrue (key_le least from)
  pub on : IsTrue (key_le from top)
  pub sums : SumsTo bounds known at from sum

-- where to read on: from a key, or nowhere, where all is read
abbrev pub ReadsOn : List Key → History → ℕ → Option Key → ℕ → Type 0
ReadsOn bounds known at (Some from) sum = HasReadTo bounds known at from sum
ReadsOn bounds known at None sum = SumsTo bounds known at top sum

-- rows are what a scan from a key on sees
pub record IsPage (bounds : List Key) (known : History) (at : ℕ) (from : Key) (rows : List KeyValue) : Type 0 where
  pub few : length rows ≤ MAX_SCAN_ROWS
  pub run : IsWorldRun bounds known
  pub sees : (h : History) → Begins known h → IsWorldRun bounds h
      → SeesRows (table_of (shadow h)).row (scan_at at from top MAX_SCAN_ROWS rows)

-- where a scan comes to rows, they are such a page
abbrev pub IsPageOf : List Key → History → ℕ → Key → Result Answer Miss → Type 0
IsPageOf bounds known at from (Ok (answer.Rows rows)) = IsPage bounds known at from rows
IsPageOf bounds known at from _ = Unit {0}

-- the balances of a page are added; where it may have been cut, but that of its last row, from
-- whose key is read on
abbrev pub AddsPage : List KeyValue → ℕ → ℕ → Option Key → Type 0
AddsPage page old new None = (length page < MAX_SCAN_ROWS) × (new ≡ old + balances_of page)
AddsPage page old new (Some key) = (front : List KeyValue) × (last : KeyValue) × (page ≡ front ++ last ∷ [])
    × (key ≡ last.key) × (new ≡ old + balances_of front)
