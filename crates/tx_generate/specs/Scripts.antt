-- A text that grows by lines, and a player that has played just these.
use Rattle.std.specs.Prelude.{◌≡◌, ℕ, List, ◌∷◌, ◌++◌, length, min, codes, Option}
use Rattle.std.specs.Io.KnownBytes.{Appends, Keeps}
use Rattle.serde_json.specs.Data.{Items}
use Rattle.tx_types.specs.declared.key.Key.{Key}
use Rattle.tx_types.specs.declared.limits.TheConstants.{MAX_LINES}
use Rattle.tx_text.specs.declared.end.End.{End}
use Rattle.tx_text.specs.declared.end.End.TheVariants.{Well, Faulted}
use Rattle.tx_text.specs.declared.end.End.TheVariants as ended
use Rattle.tx_text.specs.Lines.{lines_of}
use Rattle.tx_evidence.specs.Lines.{bounds_of}
use Rattle.tx_script.specs.Players.{PlayerState, HasPlayed, EndsWell}
use Rattle.tx_generate.specs.declared.settings.Settings.{Settings}

-- how many lines are asked for: a script has no more than 1,000,000
abbrev pub lines_asked : Settings → ℕ
lines_asked settings = min settings.steps MAX_LINES

-- a script that ends well, of so many lines
pub record IsScript (lines : ℕ) (text : List ℕ) : Type 0 where
  pub ends : EndsWell text
  pub all : length (lines_of text) ≡ lines

-- A script of so many lines was written, and nothing else. Or there is none, and nothing was.
abbrev pub Generates : ℕ → End → Option (List ℕ) → Option (List ℕ) → Type 0
Generates lines Well old new = (text : List ℕ) × IsScript lines text × Appends old new text
Generates lines Faulted old new = Keeps old new
Generates lines ended.No old new = ⊥

-- the line of a tick
abbrev pub tick_line : List ℕ
tick_line = codes "[\"tick\",1]"

-- behind the text a line begins
abbrev pub BeginsLine : List ℕ → Type 0
BeginsLine text = (more : List ℕ) → lines_of (text ++ more) ≡ lines_of text ++ lines_of more

-- the player has played the lines of the text, behind which a line begins
pub record IsGrown (bounds : List Key) (text : List ℕ) (p : PlayerState) : Type 0 where
  pub begins : BeginsLine text
  pub done : List (ℕ × Items)
  pub played : HasPlayed bounds (lines_of text) done p

-- the first line of the text says these keys between the regions
pub record IsBegun (bounds : List Key) (text : List ℕ) : Type 0 where
  pub first : List ℕ
  pub rest : List (List ℕ)
  pub lines : lines_of text ≡ first ∷ rest
  pub says : bounds_of (first ∷ rest) ≡ bounds
