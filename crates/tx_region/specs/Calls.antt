-- What a call of a region's records comes to.
use Rattle.std.specs.Prelude.{◌≡◌, ◌⊎◌, ℕ, ◌+◌, Option}
use Rattle.tx_types.specs.declared.key.Key.{Key}
use Rattle.tx_plan.specs.declared.body.Body.{Body}
use Rattle.tx_plan.specs.declared.body.Body.TheVariants.{RaiseSafe, Collect}
use Rattle.tx_plan.specs.declared.body.Collect.{Collect as CollectBody}
use Rattle.tx_plan.specs.declared.answer.Answer.{Answer}
use Rattle.tx_plan.specs.declared.planned_answer.Plan.{Plan}
use Rattle.tx_plan.specs.Cells.{Cells, Region, with_cells}
use Rattle.tx_plan.specs.Answers.{AnswersFrom, leaves}
use Rattle.tx_plan.specs.Plans.{answer_with, read_upto}
use Rattle.tx_plan.specs.Views.{info_on}
use Rattle.tx_core.specs.LastChanges.{turn_of, NotesAll, Drops}

-- A region executes a request: the answer is of the case tables, with the least minimum above
-- `mark`, and the region is as that answer leaves it, whatever was the greatest timestamp read in
-- it before; after, it is that or what was read now.
pub record Executes (mark : ℕ) (before : ℕ → Region) (loaded : ℕ) (body : Body) (a : Answer) (read : Option ℕ)
    (after : ℕ → Region) : Type 0 where
  pub answers : (n : ℕ) → AnswersFrom mark (before n) loaded body a
  pub leaves : (n : ℕ) → after (read_upto read n) ≡ leaves (before n) body a

-- A plan is carried out on a key, which then has these cells: its answer is filled in, and what it
-- read is told.
pub record CarriesOut (before : Region) (key : Key) (cells : Cells) (planned : Plan) (a : Answer) (read : Option ℕ)
    (after : Region) : Type 0 where
  pub answer : a ≡ answer_with (info_on (before.cells key) key) planned.answer
  pub reads : read ≡ planned.read
  pub leaves : after ≡ with_cells before key cells

-- A request is counted where it may change a key, and the keys that it changes get its number. Only
-- a collection drops records, and then numbers may be forgotten.
pub record Counts (body : Body) (taken : ℕ) (before : Key → Cells) (s : Key → ℕ) (later : ℕ) (after : Key
    → Cells) (t : Key → ℕ) : Type 0 where
  pub turn : later ≡ taken + turn_of body
  pub notes : NotesAll taken later before s after t
      ⊎ (((b : CollectBody) × (body ≡ Collect b)) × Drops before s after t)

-- requests that take no memory
abbrev pub TakesNoMemory : Body → Type 0
TakesNoMemory (RaiseSafe b) = Unit {0}
TakesNoMemory _ = ⊥
