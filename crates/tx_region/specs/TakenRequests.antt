-- What a region keeps, and what its reply tells.
use Rattle.std.specs.Prelude.{◌≡◌, ℕ, ◌≤◌, List, length}
use Rattle.tx_types.specs.declared.key.Key.{Key}
use Rattle.tx_types.specs.declared.mutation.Mode.TheVariants.{Async}
use Rattle.tx_plan.specs.declared.body.Body.{Body}
use Rattle.tx_plan.specs.declared.body.Body.TheVariants.{Prewrite}
use Rattle.tx_plan.specs.declared.answer.Answer.{Answer}
use Rattle.tx_plan.specs.Cells.{Region}
use Rattle.tx_plan.specs.Answers.{AnswersFrom}
use Rattle.tx_core.specs.Histories.{History, last, left, Begins}
use Rattle.tx_core.specs.ReadMarks.{max_ts}
use Rattle.tx_core.specs.Recording.{Extends}
use Rattle.tx_core.specs.LastChanges.{turns, IsNoted}
use Rattle.tx_journal.specs.Known.{Known, greatest_ts, HasSeen}
use Rattle.tx_journal.specs.Replies.{Given, Tells}

-- What its seat's own events left is what a region holds, the requests that it counted, and the
-- numbers that are noted of its keys.
pub record HoldsWhatIsLeft (bounds : List Key) (seat : Known) (region : ℕ → Region) (taken : ℕ)
    (numbers : Key → ℕ) : Type 0 where
  pub left : region (left seat.events seat.seat).max_read ≡ left seat.events seat.seat
  pub inside : seat.seat ≤ length bounds
  pub count : taken ≡ turns seat.events seat.seat
  pub noted : (k : Key) → IsNoted seat.events seat.seat k (numbers k)

-- the answer to a request may need the greatest timestamp read: that to an async prewrite may
abbrev pub NeedsMark : Body → Type 0
NeedsMark (Prewrite b) = b.mode ≡ Async
NeedsMark _ = ⊥

-- what a region has to know of it to answer a request
abbrev pub IsMark : Body → ℕ → History → Type 0
IsMark body mark h = NeedsMark body → mark ≡ max_ts h

-- The region n, which had seen `had`, learnt what the sender had seen, loaded the last number at
-- `point`, and then, where it needs that, the greatest timestamp read; it then knew `marked`.
pub record Loads (bounds : List Key) (n : ℕ) (had by : History) (body : Body) (loaded mark : ℕ)
    (marked : History) : Type 0 where
  pub point : History
  pub here : HasSeen bounds n had point
  pub heard : Begins by point
  pub is_last : loaded ≡ last point
  pub on : HasSeen bounds n point marked
  pub is_mark : IsMark body mark marked
  pub low : (loaded ≤ greatest_ts) × (mark ≤ greatest_ts)

-- The number that was loaded was the last at a point of a history, at which it began with all that
-- the sender had seen.
pub record Knows (by h : History) (loaded : ℕ) : Type 0 where
  pub point : History
  pub heard : Begins by point
  pub upto : Begins point h
  pub is_last : loaded ≡ last point

-- The region n, which had seen `had`, gave this answer, which is the one of the case tables with
-- the least minimum: of what its own events had left, of the number that it loaded, and of the
-- greatest timestamp that was read up to a point after that. It loaded and recorded with no other
-- of its events between.
pub record Answered (bounds : List Key) (n : ℕ) (had : History) (g : Given) (a : Answer) : Type 0 where
  pub tells : Tells bounds n had g a
  pub loads : Extends n had tells.point
  pub records : Extends n tells.point tells.before
  pub marked : History
  pub later : Begins tells.point marked
  pub ends : Begins marked tells.before
  pub least : AnswersFrom (max_ts marked) (left had n) (last tells.point) g.request.body a
