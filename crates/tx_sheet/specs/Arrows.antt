-- Arrows: where requests went.
use Rattle.std.specs.Prelude.{◌≡◌, ◌≢◌, ◌⊎◌, Bool, true, false, IsTrue, List, All, AllPairs, Any, Contains, Some, slice_get, bytes_eq}
use Rattle.tx_types.specs.declared.key.Key.{Key as KeyOf}
use Rattle.tx_types.specs.Keys.{is_scanned}
use Rattle.tx_plan.specs.declared.answer.Answer.{Answer}
use Rattle.tx_plan.specs.declared.answer.Answer.TheVariants.{Rows, KeyIsLocked}
use Rattle.tx_plan.specs.declared.body.Body.{Body}
use Rattle.tx_plan.specs.declared.body.Body.TheVariants.{Collect}
use Rattle.tx_plan.specs.declared.body.Scan.{Scan}
use Rattle.tx_plan.specs.declared.target.Target.{Target as To}
use Rattle.tx_plan.specs.declared.target.Target.TheVariants.{Key, Range, Region}
use Rattle.tx_plan.specs.Targets.{target}
use Rattle.tx_trace.specs.declared.taken_log.Taking.{Taking}
use Rattle.tx_sheet.specs.declared.row.Change.{Change}
use Rattle.tx_sheet.specs.declared.row.Target.{Target}

-- whether a request met a lock
abbrev pub is_locked : Answer → Bool
is_locked (KeyIsLocked info) = true
is_locked _ = false

-- whether a scan reached a key: it covered it, or met the lock there
abbrev pub scan_reached : Scan → Answer → KeyOf → Bool
scan_reached s (Rows rows) key = is_scanned s.from s.to s.limit rows key
scan_reached s (KeyIsLocked info) key = bytes_eq info.key key
scan_reached s _ key = false

-- whether a request went to a key: its own, or one that it reached
abbrev pub went_by : To KeyOf Scan → Answer → KeyOf → Bool
went_by (Key own) answer key = bytes_eq own key
went_by (Range s) answer key = scan_reached s answer key
went_by (Region n) answer key = false

abbrev pub went : Taking → KeyOf → Bool
went taking key = went_by (target taking.body) taking.answer key

-- whether a request is of keys, and not of a region
abbrev pub is_of_keys : To KeyOf Scan → Bool
is_of_keys (Key own) = true
is_of_keys (Range s) = true
is_of_keys (Region n) = false

abbrev pub is_collect : Body → Bool
is_collect (Collect c) = true
is_collect _ = false

-- a request that went to none of these keys, though it is of keys
abbrev pub IsBeyond : List KeyOf → Taking → Type 0
IsBeyond keys taking = IsTrue (is_of_keys (target taking.body)) × All (λ key. went taking key ≡ false) keys

-- a request went to the key of an arrow, which says whether it met a lock there
pub record GoesTo (keys : List KeyOf) (taking : Taking) (arrow : Target) : Type 0 where
  pub key : KeyOf
  pub is : slice_get keys arrow.key ≡ Some key
  pub goes : IsTrue (went taking key)
  pub meets : arrow.meets_lock ≡ is_locked taking.answer

-- there was a collection, and an arrow goes to a key that changed
pub record IsCollected (takings : List Taking) (changes : List Change) (arrow : Target) : Type 0 where
  pub collects : Any (λ taking. IsTrue (is_collect taking.body)) takings
  pub changed : Any (λ c. c.key ≡ arrow.key) changes
  pub meets : arrow.meets_lock ≡ false

-- where the requests that regions took by a line went, and to what a collection among them
abbrev pub IsArrow : List KeyOf → List Taking → List Change → Target → Type 0
IsArrow keys takings changes arrow =
    Any (λ taking. GoesTo keys taking arrow) takings ⊎ IsCollected takings changes arrow

-- just the arrows of these requests, each once
pub record AreArrows (keys : List KeyOf) (takings : List Taking) (changes : List Change)
    (arrows : List Target) : Type 0 where
  pub sound : All (IsArrow keys takings changes) arrows
  pub all : (arrow : Target) → IsArrow keys takings changes arrow → Contains arrows arrow
  pub once : AllPairs (λ a b. a ≢ b) arrows

-- arrows that were put behind others: just these, and none twice
pub record Gains (old new : List Target) (these : Target → Type 0) : Type 0 where
  pub kept : (arrow : Target) → Contains old arrow → Contains new arrow
  pub gained : (arrow : Target) → these arrow → Contains new arrow
  pub only : (arrow : Target) → Contains new arrow → Contains old arrow ⊎ these arrow
  pub once : AllPairs (λ a b. a ≢ b) old → AllPairs (λ a b. a ≢ b) new
