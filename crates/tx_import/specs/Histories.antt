-- What the lines of a history say, and the recording of that.
use Rattle.std.specs.Prelude.{◌≡◌, ◌⊎◌, ℕ, ◌+◌, ◌^◌, ◌≤◌, List, [], ◌∷◌, ◌++◌, length, nat_lt, Option, Some, None, Result, Ok, Err, if◌then◌else◌}
use Rattle.std.specs.List.{AllZip}
use Rattle.serde_json.specs.Data.{Data}
use Rattle.tx_types.specs.declared.fault.Cause.{Cause}
use Rattle.tx_types.specs.declared.fault.Cause.TheVariants.{Json, Form, Long, Lines}
use Rattle.tx_text.specs.Lines.{max_line, max_lines}
use Rattle.tx_text.specs.Parts.{json_of}
use Rattle.tx_recording.specs.Recordings.{IsRecording}
use Rattle.tx_import.specs.declared.line_content.SaidTransaction.{SaidTransaction}
use Rattle.tx_import.specs.declared.reader.NamedHistory.{NamedHistory}
use Rattle.tx_import.specs.declared.reader.LineFault.{LineFault}
use Rattle.tx_import.specs.Said.{transaction_of}
use Rattle.tx_import.specs.MemberNames.{HasOneTwice, HasNoneTwice}
use Rattle.tx_import.specs.Numbers.{AreApart, IsTransactionSaid}
use Rattle.tx_import.specs.Drafts.{weight}

-- a value that says no transaction is `form`
abbrev pub or_form : Option SaidTransaction → Result SaidTransaction Cause
or_form None = Err Form
or_form (Some said) = Ok said

-- a line without a value is `json`
abbrev pub or_json : ℕ → Option Data → Result SaidTransaction Cause
or_json number None = Err Json
or_json number (Some d) = or_form (transaction_of number d)

-- the transaction that the line of this number says, or why it says none: the causes are looked for
-- in this order
abbrev pub said_in : ℕ → List ℕ → Result SaidTransaction Cause
said_in number line =
    if nat_lt max_line (length line) then Err Long
    else (if nat_lt max_lines number then Err Lines
    else or_json number (json_of line))

-- the line of this number says this transaction, and has no member twice
abbrev pub Says : ℕ → List ℕ → SaidTransaction → Type 0
Says number line t = (said_in number line ≡ Ok t) × HasNoneTwice line

-- the line says none, for this cause: the one that is found first, or that it has a member twice
abbrev pub SaysNone : ℕ → List ℕ → Cause → Type 0
SaysNone number line cause = (said_in number line ≡ Err cause)
    ⊎ ((t : SaidTransaction) × (said_in number line ≡ Ok t) × HasOneTwice line × (cause ≡ Form))

-- the lines, the first of which has this number, say these transactions one by one
abbrev pub Say : ℕ → List (List ℕ) → List SaidTransaction → Type 0
Say number [] [] = Unit {0}
Say number (line ∷ lines) (t ∷ ts) = Says number line t × Say (number + 1) lines ts
Say number _ _ = ⊥

-- how many operations transactions have, and values that they read
abbrev pub total : List SaidTransaction → ℕ
total [] = 0
total (t ∷ ts) = weight t.ops + total ts

-- the recording is what was said: its transactions are those, in order, by the names of its
-- numbers, and no two numbers have one name
pub record IsHistory (h : NamedHistory) (said : List SaidTransaction) : Type 0 where
  pub recording : IsRecording h.recording
  pub keys : h.recording.keys ≡ length h.tables.keys
  pub values : h.recording.values ≡ length h.tables.values
  pub keys_apart : AreApart h.tables.keys
  pub values_apart : AreApart h.tables.values
  pub processes_apart : AreApart h.tables.processes
  pub transactions : AllZip (IsTransactionSaid h.tables h.recording.elements.items h.recording.ops.items)
      h.recording.transactions.items said

-- all lines say transactions, and the recording is that of them
abbrev pub IsHistoryOf : List (List ℕ) → NamedHistory → Type 0
IsHistoryOf lines h = (said : List SaidTransaction) × Say 1 lines said × IsHistory h said

-- the lines before one say transactions
pub record SayUpTo (lines : List (List ℕ)) (number : ℕ) (line : List ℕ) (said : List SaidTransaction) : Type 0 where
  pub before : List (List ℕ)
  pub more : List (List ℕ)
  pub split : lines ≡ before ++ line ∷ more
  pub numbered : number ≡ length before + 1
  pub says : Say 1 before said

-- it is too much in all: more operations and values that they read than 2^32 - 1
abbrev pub IsTooMuch : List SaidTransaction → SaidTransaction → Type 0
IsTooMuch said t = 2 ^ 32 ≤ total said + weight t.ops

-- the line says no transaction, or is one too many
abbrev pub IsFault : List ℕ → List SaidTransaction → LineFault → Type 0
IsFault line said fault = SaysNone fault.number line fault.cause
    ⊎ ((t : SaidTransaction) × Says fault.number line t × IsTooMuch said t × (fault.cause ≡ Lines))

-- the first line that says no transaction, or is one too many
abbrev pub IsFaultOf : List (List ℕ) → LineFault → Type 0
IsFaultOf lines fault = (line : List ℕ) × (said : List SaidTransaction) × SayUpTo lines fault.number line said
    × IsFault line said fault
