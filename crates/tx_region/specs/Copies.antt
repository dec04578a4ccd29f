-- What is copied of a region for a request of one key, and what a plan of the copy is good for.
use Rattle.std.specs.Prelude.{◌≡◌, ◌↔◌, ℕ, ◌<◌, [], Option, Some, None, IfSome, IsTrue}
use Rattle.tx_types.specs.declared.key.Key.{Key}
use Rattle.tx_types.specs.declared.mutation.Mode.TheVariants.{TwoPhase, Async}
use Rattle.tx_types.specs.Keys.{IsInsert}
use Rattle.tx_plan.specs.declared.body.Body.{Body}
use Rattle.tx_plan.specs.declared.body.Body.TheVariants as body
use Rattle.tx_plan.specs.declared.body.Prewrite.{Prewrite}
use Rattle.tx_plan.specs.declared.key_change.KeyChange.{KeyChange}
use Rattle.tx_plan.specs.declared.key_change.KeyChange.TheVariants as change
use Rattle.tx_plan.specs.declared.planned_answer.Plan.{Plan}
use Rattle.tx_plan.specs.Cells.{Cells, Region, with_cells}
use Rattle.tx_plan.specs.Answers.{AnswersFrom, leaves}
use Rattle.tx_plan.specs.Changes.{changed, Applies, new_lock, after_put, CanPut}
use Rattle.tx_plan.specs.LockCommit.{commit_in}
use Rattle.tx_plan.specs.RealChanges.{Makes}
use Rattle.tx_plan.specs.Plans.{answer_with, with_read}
use Rattle.tx_plan.specs.Views.{Shows, ShowsRead, info_on}
use Rattle.tx_plan.specs.cases.Prewrite.{HasValue}
use Rattle.tx_core.specs.Histories.{History}
use Rattle.tx_core.specs.ReadMarks.{max_ts}
use Rattle.tx_region.specs.declared.copy.KeyView.{KeyView}
use Rattle.tx_region.specs.declared.copy.KeyView.TheVariants as view
use Rattle.tx_region.specs.declared.copy.RegionNumbers.{RegionNumbers}

-- ---- requests of one key

-- requests whose answer can be planned of a copy of their key
abbrev pub IsOfKey : Body → Type 0
IsOfKey (body.Scan b) = ⊥
IsOfKey (body.RaiseSafe b) = ⊥
IsOfKey (body.LocksBelow b) = ⊥
IsOfKey (body.Collect b) = ⊥
IsOfKey _ = Unit {0}

-- their key
abbrev pub key_in : Body → Key
key_in (body.Get b) = b.key
key_in (body.Prewrite b) = b.key
key_in (body.Commit b) = b.key
key_in (body.BatchRollback b) = b.key
key_in (body.TxnHeartBeat b) = b.key
key_in (body.CheckTxnStatus b) = b.key
key_in (body.CheckSecondaryLocks b) = b.key
key_in (body.ResolveLock b) = b.key
key_in _ = []

-- two regions have the same cells on a key, and the same safe point and last collection
pub record SameKey (k : Key) (one other : Region) : Type 0 where
  pub cells : one.cells k ≡ other.cells k
  pub safe : one.safe ≡ other.safe
  pub collected : one.collected ≡ other.collected

-- ---- views

-- a read sees this of its key
abbrev pub SeesRead : Cells → ℕ → KeyView → Type 0
SeesRead cells at (view.Read v) = ShowsRead cells at v
SeesRead cells at _ = ⊥

-- a request of a transaction does
abbrev pub SeesTxn : Cells → ℕ → ℕ → KeyView → Type 0
SeesTxn cells start commit (view.Txn v) = Shows cells start commit v
SeesTxn cells start commit _ = ⊥

-- a prewrite does, and an insert sees whether a read at its start finds a value
abbrev pub SeesPrewrite : Cells → Prewrite → KeyView → Type 0
SeesPrewrite cells b (view.Prewrite v has) = Shows cells b.start b.start v
    × (IsInsert b.mutation → IsTrue has ↔ HasValue cells.write b.start)
SeesPrewrite cells b _ = ⊥

-- a request does
abbrev pub Sees : (Key → Cells) → Body → KeyView → Type 0
Sees cells (body.Get b) v = SeesRead (cells b.key) b.at v
Sees cells (body.Prewrite b) v = SeesPrewrite (cells b.key) b v
Sees cells (body.Commit b) v = SeesTxn (cells b.key) b.start b.commit v
Sees cells (body.BatchRollback b) v = SeesTxn (cells b.key) b.start b.start v
Sees cells (body.TxnHeartBeat b) v = SeesTxn (cells b.key) b.start b.start v
Sees cells (body.CheckTxnStatus b) v = SeesTxn (cells b.key) b.start b.start v
Sees cells (body.CheckSecondaryLocks b) v = SeesTxn (cells b.key) b.start b.start v
Sees cells (body.ResolveLock b) v = SeesTxn (cells b.key) b.start (commit_in b.fate) v
Sees cells _ v = ⊥

-- a region looks like a copy that was made for a request
pub record LooksLike (region : Region) (b : Body) (v : KeyView) (numbers : RegionNumbers) : Type 0 where
  pub sees : Sees region.cells b v
  pub safe : numbers.safe ≡ region.safe
  pub collected : numbers.collected ≡ region.collected

-- ---- plans

-- what a plan for a request makes of the cells of its key
abbrev pub made : Body → Cells → KeyChange → Cells
made (body.Prewrite b) cells c = after_put cells b (new_lock c)
made _ cells c = changed cells c

-- what it takes for granted there: a read changes nothing, and what the others change is a change
abbrev pub MayMake : Body → Cells → KeyChange → Type 0
MayMake (body.Get b) cells c = c ≡ change.Nothing
MayMake (body.Prewrite b) cells c = IfSome (new_lock c) (λ new. CanPut cells b new)
MayMake _ cells c = Applies cells c × Makes cells c

-- What a plan for a request makes of a region, on the key of the request, is by the case table,
-- with the least minimum above `mark`.
pub record IsPlan (mark : ℕ) (region : Region) (loaded : ℕ) (b : Body) (p : Plan) : Type 0 where
  pub answers : AnswersFrom mark region loaded b (answer_with (info_on (region.cells (key_in b)) (key_in b)) p.answer)
  pub leaves : with_read (with_cells region (key_in b) (made b (region.cells (key_in b)) p.change)) p.read
      ≡ leaves region b (answer_with (info_on (region.cells (key_in b)) (key_in b)) p.answer)
  pub may : MayMake b (region.cells (key_in b)) p.change

-- the minimum that a change promises: that of an async lock that is put
abbrev pub promised : KeyChange → Option ℕ
promised (change.Lock new) = elim new.mode [ TwoPhase ↦ None | Async ↦ Some new.min ]
promised _ = None

-- it lies above each read
abbrev pub IsAbove : KeyChange → History → Type 0
IsAbove c h = IfSome (promised c) (λ m. max_ts h < m)
