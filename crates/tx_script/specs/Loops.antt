-- Where the loop over the lines stands. Only this crate's own clauses cite it.
use Rattle.std.specs.Prelude.{◌≡◌, ◌⊎◌, ◌<◌, ◌≤◌, ◌-◌, ℕ, List, [], ◌∷◌, ◌++◌, Bool, length, take, replicate, Option, Some, None, IfSome, Ok, Err}
use Rattle.std.specs.List.{concat}
use Rattle.std.specs.Io.KnownBytes.{Appends, Consumes, Keeps}
use Rattle.tx_types.specs.declared.fault.Cause.TheVariants as cause
use Rattle.tx_types.specs.declared.key.Key.{Key}
use Rattle.tx_types.specs.declared.limits.TheConstants.{MAX_LINES, MAX_LIVE_SESSIONS}
use Rattle.tx_core.specs.Histories.{History, Begins}
use Rattle.tx_core.specs.Shadow.{shadow}
use Rattle.tx_trace.specs.Traces.{Noted}
use Rattle.tx_text.specs.declared.end.Broken.{Broken}
use Rattle.tx_text.specs.declared.end.Broken.TheVariants.{Output}
use Rattle.tx_text.specs.declared.end.End.{End}
use Rattle.tx_text.specs.declared.end.End.TheVariants.{Well, Faulted}
use Rattle.tx_text.specs.declared.end.End.TheVariants as ended
use Rattle.tx_text.specs.declared.lines.Found.{Found}
use Rattle.tx_text.specs.declared.lines.Found.TheVariants as found
use Rattle.tx_text.specs.Lines.{lines_of, max_line, NoNewline}
use Rattle.tx_reply.specs.declared.reply.ScriptReply.{ScriptReply}
use Rattle.tx_ops.specs.declared.stage.SessionStage.{SessionStage}
use Rattle.tx_engine.specs.Semantics.{opening}
use Rattle.tx_engine.specs.Slots.{Held, engine_state, own, AllSeated, Goes, TurnedBy}
use Rattle.tx_script.specs.declared.line.Turned.{Turned}
use Rattle.tx_script.specs.declared.line.Turned.TheVariants as turned
use Rattle.tx_script.specs.Stages.{line_stage}
use Rattle.tx_evidence.specs.Lines.{bounds_at}
use Rattle.tx_script.specs.Play.{line_turn, Played, Plays, render, EndsLines, BreaksLines}
use Rattle.tx_script.specs.Checked.{IsBegun, EndsCheckedLines, BreaksCheckedLines}
use Rattle.tx_script.specs.Numbered.{AreNumbers, numbered_lines, EndsNumberedLines, BreaksNumberedLines}
use Rattle.tx_script.specs.declared.asked.Asked.{Asked}
use Rattle.tx_script.specs.declared.asked.Asked.TheVariants.{Replies, Steps, NumberedSteps}
use Rattle.tx_steps.specs.Lines.{data_said}

-- these lines come next, by what was found of the first of them
abbrev pub Ahead : Found → List ℕ → Option (List ℕ) → List (List ℕ) → Type 0
Ahead found.Line line left lines = (rest : List ℕ) × (left ≡ Some rest) × (lines ≡ line ∷ lines_of rest)
Ahead found.Long line left lines = (first : List ℕ) × (more : List (List ℕ)) × (max_line < length first)
    × (lines ≡ first ∷ more)
Ahead found.End line left lines = lines ≡ []

-- the keys between the regions, by what was found first
abbrev pub first_bounds : Found → List ℕ → List Key
first_bounds found.Line line = bounds_at (data_said 1 line)
first_bounds found.Long line = []
first_bounds found.End line = []

-- what came of the next line, by what was found of it
abbrev pub FoundTurned : List Key → ℕ → Found → List ℕ → Turned → Held → Held → Type 0
FoundTurned bounds number found.Line line turned.End old new = ⊥
FoundTurned bounds number found.Line line (turned.Goes reply) old new =
    TurnedBy bounds (λ refused. line_turn bounds refused number line) (Ok reply) old new
FoundTurned bounds number found.Line line (turned.Stops c) old new =
    TurnedBy bounds (λ refused. line_turn bounds refused number line) (Err c) old new
FoundTurned bounds number found.Long line t old new = engine_state new ≡ engine_state old
FoundTurned bounds number found.End line t old new = new.network.newest ≡ old.network.newest

-- what may come of a line, by what was found of it
abbrev pub FitsFound : Found → Turned → Type 0
FitsFound found.Line turned.End = ⊥
FitsFound found.Line (turned.Goes reply) = Unit {0}
FitsFound found.Line (turned.Stops c) = Unit {0}
FitsFound found.Long t = t ≡ turned.Stops cause.Long
FitsFound found.End t = t ≡ turned.End

-- a reply comes only of a line within the limits
abbrev pub IsEarly : ℕ → Turned → Type 0
IsEarly number t = (reply : ScriptReply) → t ≡ turned.Goes reply → number ≤ MAX_LINES

-- how far the session of a fault is, where that is noted: why the line is out of order
abbrev pub NotesFault : Held → ℕ → List ℕ → Turned → Option SessionStage → Type 0
NotesFault e number line turned.End stage = stage ≡ None
NotesFault e number line (turned.Goes reply) stage = Unit {0}
NotesFault e number line (turned.Stops c) stage = IfSome stage
    (λ at. (c ≡ cause.Order) × (line_stage (engine_state e) number line ≡ Some at))

-- these lines come next, by what was found of the first of them, where that was looked for
abbrev pub AheadBy : Option Found → List ℕ → Option (List ℕ) → List (List ℕ) → Type 0
AheadBy (Some f) line left lines = Ahead f line left lines
AheadBy None line left lines = (bytes : List ℕ) × (left ≡ Some bytes) × (lines ≡ lines_of bytes)

-- what came of the line that comes first in known bytes, and then its newline
pub record LineTurned (bounds : List Key) (number : ℕ) (left left' : Option (List ℕ)) (t : Turned)
    (old new : Held) (stage : Option SessionStage) : Type 0 where
  pub text : List ℕ
  pub plain : NoNewline text
  pub short : length text ≤ max_line
  pub consumed : Consumes left left' (text ++ 10 ∷ [])
  pub goes : Goes bounds old new (FoundTurned bounds number found.Line text t old new)
  pub fits : FitsFound found.Line t
  pub early : IsEarly number t
  pub notes : NotesFault new number text t stage

-- what came of the next line, by what was found of it now, or before
pub record NextTurned (bounds : List Key) (number : ℕ) (before : Option Found) (line : List ℕ)
    (left left' : Option (List ℕ)) (t : Turned) (old new : Held) (stage : Option SessionStage) : Type 0 where
  pub found : Found
  pub text : List ℕ
  pub ahead : (lines : List (List ℕ)) → AheadBy before line left lines → Ahead found text left' lines
  pub goes : Goes bounds old new (FoundTurned bounds number found text t old new)
  pub fits : FitsFound found t
  pub early : IsEarly number t
  pub notes : NotesFault new number text t stage

-- what is counted of an engine between two lines
pub record BetweenLines (bounds : List Key) (e : Held) : Type 0 where
  pub size : length e.slots ≡ MAX_LIVE_SESSIONS
  pub seated : AllSeated bounds 0 e
  pub counts : own e ≤ length e.network.newest

module _ (bounds : List Key) (lines : List (List ℕ)) where
  -- the text of the replies of some play of the lines was written, whose events are these
  abbrev pub EndsAt : History → Option (List ℕ) → Option (List ℕ) → End → Type 0
  EndsAt h old new ended = (refused : List Bool) × (p : Played)
      × Plays bounds (opening MAX_LIVE_SESSIONS) 0 refused lines p × (p.history ≡ h)
      × Appends old new (render p.replies) × (ended ≡ p.ended)

  -- a beginning of the text of the replies of some play of the first lines was written, whose
  -- events are the first of these
  abbrev pub BreaksAt : Broken → History → Option (List ℕ) → Option (List ℕ) → Type 0
  BreaksAt why h old new = (refused : List Bool) × (first rest : List (List ℕ)) × (p : Played) × (written more : List ℕ)
      × (lines ≡ first ++ rest) × Plays bounds (opening MAX_LIVE_SESSIONS) 0 refused first p × Begins p.history h
      × Appends old new written
      × (render p.replies ≡ written ++ more) × ((why ≡ Output) ⊎ (more ≡ []))

  -- The same, with the numbers of the lines during which the steps of these events were taken.
  pub record NumberedAt (numbers : List ℕ) (h : History) (old new : Option (List ℕ)) : Type 0 where
    pub refused : List Bool
    pub played : Played
    pub plays : Plays bounds (opening MAX_LIVE_SESSIONS) 0 refused lines played
    pub history : played.history ≡ h
    pub wrote : Appends old new (render played.replies)
    pub ended : played.ended ≡ Well
    pub are : AreNumbers bounds refused lines played numbers

-- The numbers of the steps' lines go on: so many steps there are, and those that came are of this
-- line. Or no numbers are kept any more.
abbrev pub NotesLine : ℕ → Option ℕ → Option (List ℕ) → Option (List ℕ) → Type 0
NotesLine number made old new = IfSome new (λ ns. (before : List ℕ) × (count : ℕ) × (old ≡ Some before)
    × (made ≡ Some count) × (ns ≡ take count before ++ replicate (count - length before) number))

-- ---- what follows the replies

-- the steps that were kept, where they were, are those that are read off the history
abbrev pub AreOf : History → Option Noted → Type 0
AreOf h trace = IfSome trace (λ t. t.steps ≡ shadow h)

-- a beginning of the text of lines was written: whole lines, unless a write failed
abbrev pub AppendsBegun : Broken → Option (List ℕ) → Option (List ℕ) → List (List ℕ) → Type 0
AppendsBegun why old new lines = (written : List ℕ) × IsBegun why lines written × Appends old new written

-- what was written behind the replies of a script that ended so, by the numbers that were kept
abbrev pub TellsNumbers : End → History → Option (List ℕ) → Option (List ℕ) → Option (List ℕ) → Type 0
TellsNumbers Well h (Some numbers) old new = Appends old new (concat (numbered_lines numbers h))
TellsNumbers Well h None old new = ⊥
TellsNumbers Faulted h numbers old new = Appends old new []
TellsNumbers ended.No h numbers old new = Appends old new []

-- a beginning of it was, of a script that ended well
abbrev pub BeginsNumbers : Broken → History → Option (List ℕ) → Option (List ℕ) → Option (List ℕ) → Type 0
BeginsNumbers why h (Some numbers) old new = AppendsBegun why old new (numbered_lines numbers h)
BeginsNumbers why h None old new = Keeps old new

-- lines were played to their end, with their steps where those were asked for
abbrev pub EndsAsked : Asked → List Key → List (List ℕ) → Option (List ℕ) → Option (List ℕ) → End → Type 0
EndsAsked Replies bounds lines old new ended = EndsLines bounds lines old new ended
EndsAsked Steps bounds lines old new ended = EndsCheckedLines bounds lines old new ended
EndsAsked NumberedSteps bounds lines old new ended = EndsNumberedLines bounds lines old new ended

-- they were broken off
abbrev pub BreaksAsked : Asked → List Key → Broken → List (List ℕ) → Option (List ℕ) → Option (List ℕ) → Type 0
BreaksAsked Replies bounds why lines old new = BreaksLines bounds why lines old new
BreaksAsked Steps bounds why lines old new = BreaksCheckedLines bounds why lines old new
BreaksAsked NumberedSteps bounds why lines old new = BreaksNumberedLines bounds why lines old new
