-- What a copy and a plan of a region are good for later, and what comes of a plan.
use Rattle.std.specs.Prelude.{◌≡◌, ◌⊎◌, ℕ, ◌≤◌, List, IfSome, IfNone}
use Rattle.tx_types.specs.declared.key.Key.{Key}
use Rattle.tx_plan.specs.declared.answer.Answer.{Answer}
use Rattle.tx_plan.specs.declared.planned_answer.Plan.{Plan}
use Rattle.tx_plan.specs.Cells.{Region}
use Rattle.tx_plan.specs.Answers.{AnswersFrom}
use Rattle.tx_core.specs.declared.event.Event.TheVariants.{Took}
use Rattle.tx_core.specs.Histories.{History, last, left, Begins, WasLast}
use Rattle.tx_core.specs.ReadMarks.{max_ts}
use Rattle.tx_core.specs.LastChanges.{turns}
use Rattle.tx_journal.specs.Known.{greatest_ts, HasSeen, HasRecorded}
use Rattle.tx_journal.specs.Replies.{Asked, Given, Tells}
use Rattle.tx_region.specs.Copies.{IsOfKey, key_in, SameKey, LooksLike, IsPlan, IsAbove}
use Rattle.tx_region.specs.TakenRequests.{IsMark, Knows}
use Rattle.tx_region.specs.declared.applied.Applied.{Applied}
use Rattle.tx_region.specs.declared.applied.Applied.TheVariants.{Done, Stale}
use Rattle.tx_region.specs.declared.copy.KeyView.{KeyView}
use Rattle.tx_region.specs.declared.copy.Loaded.{Loaded}
use Rattle.tx_region.specs.declared.copy.RegionNumbers.{RegionNumbers}

-- ---- copies and plans

-- a copy: the region, what its seat had seen, the key, what was copied of it, and what was loaded
pub record Copied : Type 0 where
  pub region : ℕ
  pub events : History
  pub key : Key
  pub view : KeyView
  pub numbers : RegionNumbers
  pub loaded : Loaded

-- a plan of it
pub record PlanOf : Type 0 where
  pub region : ℕ
  pub events : History
  pub key : Key
  pub loaded : Loaded
  pub planned : Plan

-- What every copy and every plan keeps: the numbers are those that the region's own events had
-- left, of which so many were counted, and the number that was loaded was the last one.
pub record AreOf (events : History) (n : ℕ) (numbers : RegionNumbers) (taken : ℕ) (loaded : Loaded) : Type 0 where
  pub safe : numbers.safe ≡ (left events n).safe
  pub collected : numbers.collected ≡ (left events n).collected
  pub count : taken ≡ turns events n
  pub was : WasLast events loaded.last
  pub low : (loaded.last ≤ greatest_ts) × (loaded.mark ≤ greatest_ts)

-- The copy was made for a request of one key: each region that is the same on that key looks like
-- it.
pub record IsCopyFor (q : Asked) (copy : Copied) : Type 0 where
  pub of_key : IsOfKey q.body
  pub its_key : copy.key ≡ key_in q.body
  pub knows : Knows q.by copy.events copy.loaded.last
  pub is_mark : IsMark q.body copy.loaded.mark copy.events
  pub looks : (region : Region) → SameKey (key_in q.body) (left copy.events copy.region) region
      → LooksLike region q.body copy.view copy.numbers

-- The plan was made for a request: in each such region it is the table's answer and change, by what
-- was loaded at the copy.
pub record IsPlanFor (q : Asked) (plan : PlanOf) : Type 0 where
  pub of_key : IsOfKey q.body
  pub its_key : plan.key ≡ key_in q.body
  pub knows : Knows q.by plan.events plan.loaded.last
  pub is_mark : IsMark q.body plan.loaded.mark plan.events
  pub plans : (region : Region) → SameKey (key_in q.body) (left plan.events plan.region) region
      → IsPlan plan.loaded.mark region plan.loaded.last q.body plan.planned

-- it was made for some request
abbrev pub IsSomePlan : PlanOf → Type 0
IsSomePlan plan = ∥ ((q : Asked) × IsPlanFor q plan) ∥₁

-- ---- what is compared

-- since a region had counted so many requests its key, its safe point and its last collection
-- stayed
pub record StayedKey (region : Region) (number : ℕ) (copied : RegionNumbers) (taken : ℕ) : Type 0 where
  pub key : number ≤ taken
  pub safe : copied.safe ≡ region.safe
  pub collected : copied.collected ≡ region.collected

-- ---- what comes of a plan

-- The region n, which had seen `had`, took a request with a plan whose minimum lay above each read:
-- its event was recorded, and its answer is the table's, of what the region's own events had left.
pub record Carried (bounds : List Key) (n : ℕ) (had : History) (loaded : ℕ) (planned : Plan) (g : Given)
    (a : Answer) : Type 0 where
  pub marked : History
  pub seen : HasSeen bounds n had marked
  pub above : IsAbove planned.change marked
  pub added : HasRecorded bounds n marked (Took record {
    region = n;
    body = g.request.body;
    loaded = loaded;
    answer = a;
  }) g.events
  pub least : AnswersFrom (max_ts marked) (left had n) loaded g.request.body a

-- what comes of a plan where its key is as it was copied
abbrev pub CarriesPlan : {J : Type 0} → List Key → ℕ → History → History → Asked → ℕ → Plan → Applied J → Type 0
CarriesPlan bounds n had now q loaded planned (Done g) = (g.request ≡ q) × (now ≡ g.events)
    × IfSome g.answer (Carried bounds n had loaded planned g)
    × IfNone g.answer (IsAbove planned.change now × HasSeen bounds n had now)
CarriesPlan bounds n had now q loaded planned (Stale again) = (again ≡ q) × (IsAbove planned.change now → ⊥)
    × HasSeen bounds n had now

-- The region n, which had seen `had`, took a request with this plan: its key was as in the copy,
-- and the minimum that the plan promises lay above each read; the answer is the table's, of what
-- its own events had left, and of the number that was loaded for the copy.
pub record AppliedTo (bounds : List Key) (n : ℕ) (had : History) (plan : PlanOf) (g : Given) (a : Answer) : Type 0 where
  pub tells : Tells bounds n had g a
  pub loads : plan.loaded.last ≡ last tells.point
  pub upto : Begins tells.point plan.events
  pub same : SameKey (key_in g.request.body) (left plan.events n) (left had n)
  pub marked : History
  pub later : Begins plan.events marked
  pub ends : Begins marked tells.before
  pub above : IsAbove plan.planned.change marked
  pub least : AnswersFrom (max_ts marked) (left had n) plan.loaded.last g.request.body a

-- The region n had seen `had` and knows `now`, and a plan for a request is still right there: the
-- key is as it was copied, and the minimum that the plan promises lies above each read.
pub record IsRight (n : ℕ) (had now : History) (q : Asked) (plan : PlanOf) : Type 0 where
  pub same : SameKey (key_in q.body) (left plan.events n) (left had n)
  pub above : IsAbove plan.planned.change now

-- The region n had seen `had` and knows `now` after it was to apply a plan to a request. Done: its
-- reply is to the request and tells what the region knows; an answer is the planned one; with none,
-- as memory was refused, the plan is still right, and the region took nothing. Stale: it is the
-- request again, its key is no longer as it was copied or a read has passed the minimum that the
-- plan promises, and the region took nothing.
abbrev pub ComesOf : {J : Type 0} → List Key → ℕ → History → History → Asked → PlanOf → Applied J → Type 0
ComesOf bounds n had now q plan (Done g) = (g.request ≡ q) × (now ≡ g.events)
    × IfSome g.answer (AppliedTo bounds n had plan g)
    × IfNone g.answer (IsRight n had now q plan × HasSeen bounds n had now)
ComesOf bounds n had now q plan (Stale again) = (again ≡ q)
    × ((SameKey (key_in q.body) (left plan.events n) (left had n) → ⊥) ⊎ (IsAbove plan.planned.change now → ⊥))
    × HasSeen bounds n had now
