-- A player, which plays lines one after another: each is tried, and a fault leaves it as it was.
use Rattle.std.specs.Prelude.{◌≡◌, ◌≤◌, ◌+◌, ℕ, List, ◌++◌, Bool, length}
use Rattle.serde_json.specs.Data.{Items}
use Rattle.tx_types.specs.declared.fault.Cause.{Cause}
use Rattle.tx_types.specs.declared.key.Key.{Key}
use Rattle.tx_types.specs.declared.limits.TheConstants.{MAX_LIVE_SESSIONS, MAX_LINES}
use Rattle.tx_reply.specs.declared.reply.ScriptReply.{ScriptReply}
use Rattle.tx_network.specs.Networks.{IsTraced}
use Rattle.tx_text.specs.declared.end.End.TheVariants.{Well}
use Rattle.tx_text.specs.Lines.{lines_of}
use Rattle.tx_engine.specs.Semantics.{opening, stops}
use Rattle.tx_engine.specs.Slots.{Held, engine_state, own, AllSeated, GoesTo}
use Rattle.tx_evidence.specs.Lines.{bounds_of}
use Rattle.tx_script.specs.Play.{line_turn, Played, Plays, IsPlay}

-- what a player has: its engine, how many lines it has played, and how many more it may try
pub record PlayerState : Type 0 where
  pub engine : Held
  pub number : ℕ
  pub left : ℕ

-- what is played after these replies
abbrev pub after : List (ℕ × Items) → Played → Played
after done p = record { replies = done ++ p.replies; history = p.history; ended = p.ended }

module _ (bounds : List Key) where
  -- the first lines have led to the engine's engine state, with these replies
  pub record SoFar (lines : List (List ℕ)) (done : List (ℕ × Items)) (number : ℕ) (e : Held) : Type 0 where
    pub told : List Bool
    pub goes_on : (later : List Bool) (more : List (List ℕ)) (p : Played)
        → Plays bounds (engine_state e) number later more p
        → Plays bounds (opening MAX_LIVE_SESSIONS) 0 (told ++ later) (lines ++ more) (after done p)

  -- it stands between two lines: its seats have numbers for as many more as it may try
  pub record IsPlayer (p : PlayerState) : Type 0 where
    pub few : p.number ≤ MAX_LINES
    pub size : length p.engine.slots ≡ MAX_LIVE_SESSIONS
    pub seated : AllSeated bounds p.left p.engine
    pub counts : own p.engine ≤ length p.engine.network.newest

  -- The player has played just these lines, with these replies, where no more events came than its
  -- engine made.
  pub record HasPlayed (lines : List (List ℕ)) (done : List (ℕ × Items)) (p : PlayerState) : Type 0 where
    pub stands : IsPlayer p
    pub so_far : length p.engine.network.newest ≤ own p.engine → SoFar lines done p.number p.engine

  -- the next line is a fault for this cause: it stops where the player stands, whatever is refused
  abbrev pub IsFault : PlayerState → List ℕ → Cause → Type 0
  IsFault p line cause = (refused : List Bool)
      → line_turn bounds refused (p.number + 1) line (engine_state p.engine) ≡ stops cause

  -- the next line is replied to so: from where the player stands it leads to where the new one does
  abbrev pub IsReplied : PlayerState → List ℕ → ScriptReply → PlayerState → Type 0
  IsReplied p line reply next = GoesTo bounds (λ refused. line_turn bounds refused (p.number + 1) line
      (engine_state p.engine)) reply (engine_state next.engine)

  -- where nobody else acted, a trace that was that of what had happened is it still
  pub record Traced (old new : PlayerState) : Type 0 where
    pub before : length new.engine.network.newest ≤ own new.engine
        → length old.engine.network.newest ≤ own old.engine
    pub traced : length new.engine.network.newest ≤ own new.engine → IsTraced old.engine.network
        → IsTraced new.engine.network

  -- something was shown: where nobody else acted, all is as it was
  pub record Peeked (old new : PlayerState) : Type 0 where
    pub number : new.number ≡ old.number
    pub left : new.left ≡ old.left
    pub before : length new.engine.network.newest ≤ own new.engine
        → length old.engine.network.newest ≤ own old.engine
    pub newest : length new.engine.network.newest ≤ own new.engine
        → new.engine.network.newest ≡ old.engine.network.newest
    pub state : length new.engine.network.newest ≤ own new.engine
        → engine_state new.engine ≡ engine_state old.engine
    pub trace : new.engine.network.trace ≡ old.engine.network.trace

  -- these lines are a script that ends well, with these replies: so says its only play
  abbrev pub EndWellWith : List (List ℕ) → List (ℕ × Items) → Type 0
  EndWellWith lines done = (refused : List Bool) × (p : Played) × IsPlay bounds refused lines p
      × (p.replies ≡ done) × (p.ended ≡ Well)

-- the text is a script that ends well, over the regions that its first line says
abbrev pub EndsWell : List ℕ → Type 0
EndsWell text = (done : List (ℕ × Items)) × EndWellWith (bounds_of (lines_of text)) (lines_of text) done
