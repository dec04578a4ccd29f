-- Circles: what regions read.
use Rattle.std.specs.Prelude.{◌≡◌, ◌⊎◌, ℕ, List, Any, Option, Some, None, cond, slice_get, bytes_eq, string_bytes, codes}
use Rattle.tx_types.specs.declared.key.Key.{Key}
use Rattle.tx_types.specs.declared.value.Value.{Value}
use Rattle.tx_types.specs.Keys.{is_scanned, value_in}
use Rattle.tx_plan.specs.declared.answer.Answer.{Answer}
use Rattle.tx_plan.specs.declared.answer.Answer.TheVariants.{Found, Nothing, Rows}
use Rattle.tx_plan.specs.declared.body.Body.{Body}
use Rattle.tx_plan.specs.declared.body.Body.TheVariants.{Get, Scan}
use Rattle.tx_trace.specs.declared.taken_log.Taking.{Taking}
use Rattle.tx_sheet.specs.declared.row.KeyRead.{KeyRead}
use Rattle.tx_sheet.specs.Words.{IsWord}

-- what a read of a key found: a value, or that there is none; None of what is no such answer
abbrev pub value_found : Answer → Option (Option Value)
value_found (Found value) = Some (Some value)
value_found Nothing = Some None
value_found _ = None

-- what a request found of a key: a read of its own; a scan of each key that it covered
abbrev pub found_by : Body → Answer → Key → Option (Option Value)
found_by (Get g) answer key = cond (bytes_eq g.key key) (value_found answer) None
found_by (Scan s) (Rows rows) key = cond (is_scanned s.from s.to s.limit rows key) (Some (value_in rows key)) None
found_by _ _ key = None

-- a request found this of the key at a place
pub record IsReading (keys : List Key) (taking : Taking) (place : ℕ) (found : Option Value) : Type 0 where
  pub key : Key
  pub is : slice_get keys place ≡ Some key
  pub finds : found_by taking.body taking.answer key ≡ Some found

-- the text of what was found: that there is none is told as such, and a value that is a short word
-- as it is; how other values are cut or quoted is left open
abbrev pub IsText : Option Value → List ℕ → Type 0
IsText None text = text ≡ codes "none"
IsText (Some value) text = IsWord value → text ≡ value

-- reads tell this text of the key at a place
abbrev pub Tells : List KeyRead → ℕ → List ℕ → Type 0
Tells reads place text = Any (λ r. (r.key ≡ place) × (string_bytes r.found ≡ text)) reads

-- just what these requests found is told, of each key
pub record AreReads (keys : List Key) (takings : List Taking) (reads : List KeyRead) : Type 0 where
  pub sound : (place : ℕ) (text : List ℕ) → Tells reads place text → (found : Option Value)
      × Any (λ taking. IsReading keys taking place found) takings × IsText found text
  pub all : (place : ℕ) (found : Option Value) → Any (λ taking. IsReading keys taking place found) takings
      → (text : List ℕ) × IsText found text × Tells reads place text

-- what was told behind others: just these findings
pub record Learns (old new : List KeyRead) (these : ℕ → Option Value → Type 0) : Type 0 where
  pub kept : (place : ℕ) (text : List ℕ) → Tells old place text → Tells new place text
  pub gained : (place : ℕ) (found : Option Value) → these place found
      → (text : List ℕ) × IsText found text × Tells new place text
  pub only : (place : ℕ) (text : List ℕ) → Tells new place text
      → Tells old place text ⊎ ((found : Option Value) × these place found × IsText found text)
