-- What a script means, and what is written for it.
use Rattle.std.specs.Prelude.{◌≡◌, ◌⊎◌, ℕ, ◌+◌, ◌==◌, ◌&&◌, List, [], ◌∷◌, ◌++◌, Bool, length, Option, Some, None, is_some, Result, Ok, Err, if◌then◌else◌}
use Rattle.std.specs.List.{flat_map}
use Rattle.std.specs.Io.KnownBytes.{Appends}
use Rattle.serde_json.specs.Data.{Data, Items}
use Rattle.tx_types.specs.declared.fault.Cause.{Cause}
use Rattle.tx_types.specs.declared.fault.Cause.TheVariants.{Form}
use Rattle.tx_types.specs.declared.key.Key.{Key}
use Rattle.tx_types.specs.declared.limits.TheConstants.{MAX_LIVE_SESSIONS}
use Rattle.tx_machine.specs.Machine.{IsRun}
use Rattle.tx_core.specs.Histories.{History}
use Rattle.tx_core.specs.Shadow.{shadow, AllTrue}
use Rattle.tx_core.specs.Worlds.{IsWorldRun}
use Rattle.tx_text.specs.declared.end.Broken.{Broken}
use Rattle.tx_text.specs.declared.end.Broken.TheVariants.{Output}
use Rattle.tx_text.specs.declared.end.End.{End}
use Rattle.tx_text.specs.declared.end.End.TheVariants.{Well, Faulted}
use Rattle.tx_reply.specs.declared.reply.ScriptReply.TheVariants.{Regions}
use Rattle.tx_text.specs.Lines.{lines_of}
use Rattle.tx_reply.specs.Replies.{reply_words}
use Rattle.tx_text.specs.Members.{reply_text}
use Rattle.tx_text.specs.Faults.{fault_words}
use Rattle.tx_steps.specs.declared.program.Program.TheVariants.{Simulate}
use Rattle.tx_steps.specs.declared.step.Step.{Step}
use Rattle.tx_steps.specs.Steps.{Text}
use Rattle.tx_steps.specs.Lines.{data_said, step_in, bounds_in}
use Rattle.tx_engine.specs.Semantics.{EngineState, opening, Transition, goes, stops, turn}
use Rattle.tx_engine.specs.Plays.{Leads}
use Rattle.tx_evidence.specs.Lines.{bounds_of, step_by}
use Rattle.tx_evidence.specs.Tells.{Entered, nothing_entered, entered_by, LineTells}

-- ---- lines

module _ (bounds : List Key) where
  -- the step that a value says, where it says one
  abbrev pub step_turn : List Bool → Option (Step Text) → EngineState → Transition
  step_turn refused None engine = stops Form
  step_turn refused (Some step) engine = turn bounds refused step engine

  -- line 1 may say the regions: nothing has happened yet
  abbrev pub value_turn : List Bool → ℕ → Data → EngineState → Transition
  value_turn refused number d engine =
      if (number == 1) && is_some (bounds_in d) then goes engine (Regions (length bounds + 1)) refused
      else step_turn refused (step_in Simulate d) engine

  abbrev pub said_turn : List Bool → ℕ → Result Data Cause → EngineState → Transition
  said_turn refused number (Ok d) engine = value_turn refused number d engine
  said_turn refused number (Err c) engine = stops c

  -- what the line of this number leads to
  abbrev pub line_turn : List Bool → ℕ → List ℕ → EngineState → Transition
  line_turn refused number line engine = said_turn refused number (data_said number line) engine

-- ---- scripts

-- what comes of a script: its replies, each with its line's number, all events, and how it ends
pub record Played : Type 0 where
  pub replies : List (ℕ × Items)
  pub history : History
  pub ended : End

-- the same after an earlier reply
abbrev pub before : ℕ × Items → Played → Played
before reply p = record { replies = reply ∷ p.replies; history = p.history; ended = p.ended }

-- nothing more is played
abbrev pub ending : EngineState → Played
ending engine = record { replies = []; history = engine.network.history; ended = Well }

-- the line of this number is a fault, which ends the script
abbrev pub faulted : EngineState → ℕ → Cause → Played
faulted engine number cause = record {
  replies = (number, fault_words cause) ∷ [];
  history = engine.network.history;
  ended = Faulted;
}

-- the text of replies
abbrev pub render : List (ℕ × Items) → List ℕ
render replies = flat_map reply_text replies

-- ---- what replies tell

-- The step that a line says, if it says one.
abbrev pub step_of : Result Data Cause → Option (Step Text)
step_of said = step_by Simulate said

-- what was entered after it
abbrev pub entered_after : Option (Step Text) → Entered → Entered
entered_after None entered = entered
entered_after (Some what) entered = entered_by what entered

module _ (bounds : List Key) where
  -- Lines are played from an engine state on, the first with the number after this one: each leads
  -- to its reply and to the engine state of the next; a fault ends the script.
  abbrev pub Plays : EngineState → ℕ → List Bool → List (List ℕ) → Played → Type 0
  Plays engine number refused [] p = p ≡ ending engine
  Plays engine number refused (line ∷ lines) p =
      Leads bounds (λ next said left. (q : Played) × Plays next (number + 1) left lines q
      × (p ≡ before (number + 1, reply_words said) q))
      (λ cause. p ≡ faulted engine (number + 1) cause)
      (line_turn bounds refused (number + 1) line engine)

  -- Each reply is that of the line of its number, from the number after this one on, each line has
  -- one at most, and each tells of what has happened.
  abbrev pub AllTell : Entered → History → ℕ → List (List ℕ) → List (ℕ × Items) → Type 0
  AllTell entered h number lines [] = Unit {0}
  AllTell entered h number [] (reply ∷ replies) = ⊥
  AllTell entered h number (line ∷ lines) (reply ∷ replies) = (reply.0 ≡ number + 1)
      × LineTells bounds entered h (step_of (data_said (number + 1) line)) reply.1
      × AllTell (entered_after (step_of (data_said (number + 1) line)) entered) h (number + 1) lines replies

  -- What lines mean over regions with these bounds, where the calls that `refused` names met want
  -- of memory: they mean nothing else, and their events are a run of the protocol. So the steps of
  -- the machine that commits each transaction in one step, read off that run, are a run of that
  -- machine, and each answer is true of its table where it was given. Each reply tells of these
  -- events.
  pub record IsPlay (refused : List Bool) (lines : List (List ℕ)) (p : Played) : Type 0 where
    pub plays : Plays (opening MAX_LIVE_SESSIONS) 0 refused lines p
    pub only : (q : Played) → Plays (opening MAX_LIVE_SESSIONS) 0 refused lines q → q ≡ p
    pub run : IsWorldRun bounds p.history
    pub one_step : IsRun (shadow p.history)
    pub answers : AllTrue p.history
    pub tells : AllTell nothing_entered p.history 0 lines p.replies

  -- lines that were played to their end: the text of their replies was written, and nothing else
  abbrev pub EndsLines : List (List ℕ) → Option (List ℕ) → Option (List ℕ) → End → Type 0
  EndsLines lines old new ended = (refused : List Bool) × (p : Played) × IsPlay refused lines p
      × Appends old new (render p.replies) × (ended ≡ p.ended)

  -- lines that were broken off: a beginning of the text of the first of them was written, whole
  -- replies unless a write failed
  abbrev pub BreaksLines : Broken → List (List ℕ) → Option (List ℕ) → Option (List ℕ) → Type 0
  BreaksLines why lines old new = (refused : List Bool) × (first rest : List (List ℕ)) × (p : Played)
      × (written more : List ℕ)
      × (lines ≡ first ++ rest) × IsPlay refused first p × Appends old new written
      × (render p.replies ≡ written ++ more)
      × ((why ≡ Output) ⊎ (more ≡ []))

-- an ended script has written the text of its replies, and nothing else
abbrev pub EndsScript : List ℕ → Option (List ℕ) → Option (List ℕ) → End → Type 0
EndsScript input old new ended = EndsLines (bounds_of (lines_of input)) (lines_of input) old new ended

-- a script that was broken off has written a beginning of the text of its first lines: whole
-- replies, unless a write failed
abbrev pub BreaksScript : Broken → List ℕ → Option (List ℕ) → Option (List ℕ) → Type 0
BreaksScript why input old new = BreaksLines (bounds_of (lines_of input)) why (lines_of input) old new
