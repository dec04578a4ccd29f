-- What a film has of a play.
use Rattle.std.specs.Prelude.{◌≡◌, ◌&&◌, ℕ, zero, suc, ◌+◌, List, [], ◌∷◌, ◌++◌, Bool, cond, nat_le, reverse, length, take, slice_get, slice_range, Option, Some, None, Result, Ok, Err, All}
use Rattle.serde_json.specs.Data.{Items}
use Rattle.tx_types.specs.declared.fault.Cause.{Cause}
use Rattle.tx_types.specs.declared.key.Key.{Key}
use Rattle.tx_types.specs.declared.limits.TheConstants.{MAX_LIVE_SESSIONS}
use Rattle.tx_machine.specs.declared.step.Step.{Step}
use Rattle.tx_cells.specs.Copies.{Copies}
use Rattle.tx_core.specs.Histories.{History, left}
use Rattle.tx_core.specs.Worlds.{route}
use Rattle.tx_core.specs.Shadow.{shadow}
use Rattle.tx_trace.specs.declared.taken_log.Taking.{Taking}
use Rattle.tx_trace.specs.declared.taken_log.TakenLog.{TakenLog}
use Rattle.tx_trace.specs.Takings.{takings}
use Rattle.tx_trace.specs.Traces.{Noted}
use Rattle.tx_text.specs.declared.end.End.{End}
use Rattle.tx_text.specs.Faults.{fault_words}
use Rattle.tx_reply.specs.declared.reply.ScriptReply.{ScriptReply}
use Rattle.tx_reply.specs.Replies.{reply_words}
use Rattle.tx_engine.specs.Semantics.{EngineState, opening, stops}
use Rattle.tx_engine.specs.Slots.{GoesTo}
use Rattle.tx_script.specs.Play.{line_turn, Played, IsPlay}
use Rattle.tx_film.specs.declared.frame.Frame.{Frame}
use Rattle.tx_film.specs.declared.frame.KeyShown.{KeyShown}

-- the frames of a film, all that regions took and all steps of the machine, newest first, and how
-- the script ended
pub record FilmParts : Type 0 where
  pub frames : List Frame
  pub takings : List Taking
  pub steps : List Step
  pub ended : End

-- what a film has of its trace
abbrev pub taken_in : Option TakenLog → List Taking
taken_in None = []
taken_in (Some t) = reverse t.takings.items

abbrev pub film_parts : List Frame → Noted → End → FilmParts
film_parts frames trace ended = record {
  frames = frames;
  takings = taken_in trace.taken;
  steps = trace.steps;
  ended = ended;
}

-- the words of a reply, or of the fault in its place
abbrev pub words_of : Result ScriptReply Cause → Items
words_of (Ok reply) = reply_words reply
words_of (Err cause) = fault_words cause

-- what was replied to each line, numbered from the one behind this number on
abbrev pub replies_from : ℕ → List Frame → List (ℕ × Items)
replies_from number [] = []
replies_from number (f ∷ fs) = (number + 1, words_of f.reply) ∷ replies_from (number + 1) fs

-- ---- what came with a line

-- a count of a frame, 0 of none
abbrev pub count_in : (Frame → ℕ) → Option Frame → ℕ
count_in count None = 0
count_in count (Some f) = count f

-- how many there were before the line at this place
abbrev pub count_before : (Frame → ℕ) → List Frame → ℕ → ℕ
count_before count frames zero = 0
count_before count frames (suc place) = count_in count (slice_get frames place)

-- the part of a list from one count up to another; empty where it has no such part
abbrev pub part : {A : Type 0} → List A → ℕ → ℕ → List A
part xs from to = cond (nat_le from to && nat_le to (length xs)) (slice_range xs from to) []

-- the part of a list that came with the line at this place
abbrev pub part_at : {A : Type 0} → (Frame → ℕ) → List Frame → List A → ℕ → List A
part_at count frames all place = part all (count_before count frames place) (count_in count (slice_get frames place))

-- the requests that regions took by the line at this place, oldest first
abbrev pub takings_at : FilmParts → ℕ → List Taking
takings_at film place = part_at (λ (f : Frame). f.takings) film.frames (reverse film.takings) place

-- the steps of the machine that came with the line at this place, oldest first
abbrev pub steps_at : FilmParts → ℕ → List Step
steps_at film place = part_at (λ (f : Frame). f.steps) film.frames (reverse film.steps) place

module _ (bounds : List Key) where
  -- what a line of this number leads to: its reply and another engine state; or it is a fault
  abbrev pub Led : ℕ → List ℕ → EngineState → EngineState → Result ScriptReply Cause → Type 0
  Led number line a b (Ok reply) = GoesTo bounds (λ refused. line_turn bounds refused number line a) reply b
  Led number line a b (Err cause) = (b ≡ a)
      × ((refused : List Bool) → line_turn bounds refused number line a ≡ stops cause)

module _ (bounds shown : List Key) where
  -- what is said of a key, one of those that are shown, is what its region shows of it after a run
  abbrev pub StandsSo : History → KeyShown → Type 0
  StandsSo h said = (key : Key) × (slice_get shown said.key ≡ Some key)
      × Copies ((left h (route bounds key)).cells key) said.shown

  -- The line at a place led from one engine state to another, to the reply of its frame: what
  -- regions took meanwhile is just what the film has there, and so are the machine's steps; and
  -- what the frame says of keys stands on them then.
  pub record IsFrame (film : FilmParts) (place : ℕ) (line : List ℕ) (a b : EngineState) (f : Frame) : Type 0 where
    pub led : Led bounds (place + 1) line a b f.reply
    pub takings : takings b.network.history ≡ reverse (takings_at film place) ++ takings a.network.history
    pub steps : shadow b.network.history ≡ reverse (steps_at film place) ++ shadow a.network.history
    pub keys : All (StandsSo b.network.history) f.keys.items

  -- frames of a film and their lines, both newest first, from the beginning up to an engine state
  abbrev pub Reel : FilmParts → List Frame → List (List ℕ) → EngineState → Type 0
  Reel film [] lines s = (lines ≡ []) × (s ≡ opening MAX_LIVE_SESSIONS)
  Reel film (f ∷ fs) [] s = ⊥
  Reel film (f ∷ fs) (line ∷ lines) s = (before : EngineState) × IsFrame film (length fs) line before s f
      × Reel film fs lines before

-- the first lines, which frames are of
abbrev pub first_lines : List Frame → List (List ℕ) → List (List ℕ)
first_lines frames lines = take (length frames) lines

module _ (bounds shown : List Key) (lines : List (List ℕ)) where
  -- The lines were played to their end or to a fault. The film has the reply to each, just the
  -- requests that regions took, each once, in order, with its answer, and just the steps of the
  -- machine that are read off the run. Each line led from where the one before it had led, and the
  -- film has at its place just those that came with it; what its frames say of the keys that are
  -- shown stood on them then.
  pub record Films (film : FilmParts) : Type 0 where
    pub refused : List Bool
    pub play : Played
    pub is : IsPlay bounds refused lines play
    pub ended : film.ended ≡ play.ended
    pub replies : play.replies ≡ replies_from 0 film.frames
    pub takings : film.takings ≡ takings play.history
    pub steps : film.steps ≡ shadow play.history
    pub last : EngineState
    pub reel : Reel bounds shown film (reverse film.frames) (reverse (first_lines film.frames lines)) last
    pub whole : last.network.history ≡ play.history
