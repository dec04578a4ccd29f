-- What a player has played that was filmed.
use Rattle.std.specs.Prelude.{◌≡◌, ◌≤◌, ℕ, ◌+◌, List, [], ◌∷◌, ◌++◌, Bool, reverse, length, All, Some}
use Rattle.tx_types.specs.declared.fault.Cause.{Cause}
use Rattle.tx_types.specs.declared.key.Key.{Key}
use Rattle.tx_types.specs.declared.limits.TheConstants.{MAX_LIVE_SESSIONS}
use Rattle.tx_core.specs.Worlds.{IsWorldRun}
use Rattle.tx_core.specs.Histories.{Begins}
use Rattle.tx_core.specs.Shadow.{shadow}
use Rattle.tx_trace.specs.declared.taken_log.TakenLog.{TakenLog}
use Rattle.tx_trace.specs.Takings.{takings}
use Rattle.tx_trace.specs.Traces.{Noted}
use Rattle.serde_json.specs.Data.{Items}
use Rattle.tx_network.specs.Networks.{NetworkParts, IsTraced}
use Rattle.tx_engine.specs.Semantics.{EngineState, opening, stops}
use Rattle.tx_engine.specs.Slots.{Held, engine_state, own}
use Rattle.tx_text.specs.declared.end.End.{End}
use Rattle.tx_text.specs.declared.end.End.TheVariants.{Well, Faulted, No}
use Rattle.tx_text.specs.Faults.{fault_words}
use Rattle.tx_script.specs.Play.{line_turn}
use Rattle.tx_script.specs.Players.{PlayerState, HasPlayed}
use Rattle.tx_film.specs.Films.{replies_from, Led, StandsSo}
use Rattle.tx_film.specs.declared.frame.Frame.{Frame}
use Rattle.tx_film.specs.declared.frame.KeyShown.{KeyShown}

-- so many requests were taken, and so many steps made, by what is kept of them
pub record Counted (network : NetworkParts) (took made : ℕ) : Type 0 where
  pub trace : Noted
  pub log : TakenLog
  pub is : network.trace ≡ Some trace
  pub kept : trace.taken ≡ Some log
  pub requests : took ≡ length log.takings.items
  pub steps : made ≡ length trace.steps

module _ (bounds : List Key) where
  -- a player stands where another does: what one has played, so has the other, and where nobody
  -- else acted, all is as it was
  pub record Stands (old new : PlayerState) : Type 0 where
    pub number : new.number ≡ old.number
    pub left : new.left ≡ old.left
    pub before : length new.engine.network.newest ≤ own new.engine
        → length old.engine.network.newest ≤ own old.engine
    pub newest : length new.engine.network.newest ≤ own new.engine
        → new.engine.network.newest ≡ old.engine.network.newest
    pub state : length new.engine.network.newest ≤ own new.engine
        → engine_state new.engine ≡ engine_state old.engine
    pub trace : new.engine.network.trace ≡ old.engine.network.trace
    pub played : (lines : List (List ℕ)) (done : List (ℕ × Items)) → HasPlayed bounds lines done old
        → HasPlayed bounds lines done new

module _ (bounds shown : List Key) where
  -- where nobody else acted, what is said of keys stands on them
  abbrev pub AreShown : Held → List KeyShown → Type 0
  AreShown e said = length e.network.newest ≤ own e → All (StandsSo bounds shown e.network.newest) said

  -- the frame of a line, which led from one engine state to another: how many requests regions had
  -- taken then, and how many steps of the machine there were
  pub record IsShot (number : ℕ) (line : List ℕ) (a b : EngineState) (f : Frame) : Type 0 where
    pub led : Led bounds number line a b f.reply
    pub grew : Begins a.network.history b.network.history
    pub takings : f.takings ≡ length (takings b.network.history)
    pub steps : f.steps ≡ length (shadow b.network.history)
    pub keys : All (StandsSo bounds shown b.network.history) f.keys.items

  -- frames and their lines, both newest first, from the beginning up to an engine state
  abbrev pub Shots : List Frame → List (List ℕ) → EngineState → Type 0
  Shots [] lines s = (lines ≡ []) × (s ≡ opening MAX_LIVE_SESSIONS)
  Shots (f ∷ fs) [] s = ⊥
  Shots (f ∷ fs) (line ∷ lines) s = (before : EngineState) × IsShot (length fs + 1) line before s f
      × Shots fs lines before

  -- The player has played these lines, and the frames have the replies. Where nobody else acted,
  -- its trace is that of what has happened, and the frames are those of what the lines led to.
  pub record HasFilmed (lines : List (List ℕ)) (frames : List Frame) (p : PlayerState) : Type 0 where
    pub played : HasPlayed bounds lines (replies_from 0 frames) p
    pub many : length frames ≡ length lines
    pub traced : length p.engine.network.newest ≤ own p.engine → IsTraced p.engine.network
    pub reel : length p.engine.network.newest ≤ own p.engine → IsWorldRun bounds p.engine.network.newest
        → Shots (reverse frames) (reverse lines) (engine_state p.engine)

  -- the next line is a fault where the player stands
  abbrev pub Halts : PlayerState → List ℕ → Cause → Type 0
  Halts p line cause = length p.engine.network.newest ≤ own p.engine → (refused : List Bool)
      → line_turn bounds refused (p.number + 1) line (engine_state p.engine) ≡ stops cause

  -- these lines were filmed, and the next one is a fault, which the last frame is
  pub record StopsAt (lines : List (List ℕ)) (before frames : List Frame) (line : List ℕ) (cause : Cause)
      (p : PlayerState) : Type 0 where
    pub filmed : HasFilmed lines before p
    pub halts : Halts p line cause
    pub replies : replies_from 0 frames ≡ replies_from 0 before ++ (p.number + 1, fault_words cause) ∷ []
    pub many : length frames ≡ length lines + 1
    pub reel : length p.engine.network.newest ≤ own p.engine → IsWorldRun bounds p.engine.network.newest
        → Shots (reverse frames) (reverse (lines ++ line ∷ [])) (engine_state p.engine)

  -- the lines were filmed up to a fault
  pub record Halted (lines : List (List ℕ)) (frames : List Frame) (p : PlayerState) : Type 0 where
    pub first : List (List ℕ)
    pub line : List ℕ
    pub rest : List (List ℕ)
    pub before : List Frame
    pub cause : Cause
    pub split : lines ≡ first ++ line ∷ rest
    pub stops : StopsAt first before frames line cause p

  -- the lines were filmed to their end, or up to a fault
  abbrev pub Ended : List (List ℕ) → List Frame → End → PlayerState → Type 0
  Ended lines frames Well p = HasFilmed lines frames p
  Ended lines frames Faulted p = Halted lines frames p
  Ended lines frames No p = ⊥
