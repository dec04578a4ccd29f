-- What is written of a script whose steps stand beside the numbers of its lines.
use Rattle.std.specs.Prelude.{◌≡◌, ◌⊎◌, ◌≤◌, ◌<◌, ◌+◌, ℕ, List, [], ◌∷◌, ◌++◌, map, reverse, length, take, get_or, Bool, Option}
use Rattle.std.specs.List.{concat, zip}
use Rattle.std.specs.Io.KnownBytes.{Appends}
use Rattle.tx_types.specs.declared.key.Key.{Key}
use Rattle.tx_core.specs.Histories.{History}
use Rattle.tx_core.specs.Shadow.{shadow}
use Rattle.tx_text.specs.declared.end.Broken.{Broken}
use Rattle.tx_text.specs.declared.end.End.{End}
use Rattle.tx_text.specs.declared.end.End.TheVariants.{Well, Faulted}
use Rattle.tx_text.specs.declared.end.End.TheVariants as ended
use Rattle.tx_text.specs.Lines.{lines_of}
use Rattle.tx_text.specs.Texts.{line_text}
use Rattle.tx_check.specs.Steps.{beside_text}
use Rattle.tx_check.specs.declared.words.Verdict.TheVariants.{Yes}
use Rattle.tx_check.specs.Words.{words}
use Rattle.tx_evidence.specs.Lines.{bounds_of}
use Rattle.tx_script.specs.Play.{Played, render, IsPlay, BreaksLines}
use Rattle.tx_script.specs.Checked.{IsBegun}

-- how many steps of the machine there are in a play
abbrev pub steps_in : Played → ℕ
steps_in p = length (shadow p.history)

-- the lines that follow the replies of a run: its steps, oldest first, each beside a number, and
-- that they are a run
abbrev pub numbered_lines : List ℕ → History → List (List ℕ)
numbered_lines numbers h = map beside_text (zip numbers (reverse (shadow h))) ++ line_text (words Yes) ∷ []

-- the text that follows the replies of a script that ended so
abbrev pub numbers_told : End → List ℕ → History → List ℕ
numbers_told Well numbers h = concat (numbered_lines numbers h)
numbers_told Faulted numbers h = []
numbers_told ended.No numbers h = []

module _ (bounds : List Key) where
  -- The step that so many others of a run precede was taken during the line of this number: the
  -- lines before it, played alone, make no more steps than those, and with it they make more.
  pub record IsTakenAt (refused : List Bool) (lines : List (List ℕ)) (place number : ℕ) : Type 0 where
    pub earlier : ℕ
    pub line : number ≡ earlier + 1
    pub within : earlier < length lines
    pub before : Played
    pub after : Played
    pub plays_before : IsPlay bounds refused (take earlier lines) before
    pub plays_after : IsPlay bounds refused (take number lines) after
    pub not_yet : steps_in before ≤ place
    pub by_then : place < steps_in after

  -- the numbers of the lines during which the steps of a play were taken, the oldest step first
  pub record AreNumbers (refused : List Bool) (lines : List (List ℕ)) (p : Played) (numbers : List ℕ) : Type 0 where
    pub each : length numbers ≡ steps_in p
    pub taken : (place : ℕ) → place < length numbers → IsTakenAt refused lines place (get_or numbers place 0)

  -- lines that were played to their end: the replies of their only play were written, and where
  -- it ended well its steps, each beside the number of its line
  abbrev pub EndsNumberedLines : List (List ℕ) → Option (List ℕ) → Option (List ℕ) → End → Type 0
  EndsNumberedLines lines old new ended = (refused : List Bool) × (p : Played) × (numbers : List ℕ)
      × IsPlay bounds refused lines p
      × Appends old new (render p.replies ++ numbers_told p.ended numbers p.history) × (ended ≡ p.ended)
      × (p.ended ≡ Well → AreNumbers refused lines p numbers)

  -- lines that ended well, and then were broken off: their replies were written, and a beginning of
  -- what follows them
  abbrev pub BreaksNumbers : Broken → List (List ℕ) → Option (List ℕ) → Option (List ℕ) → Type 0
  BreaksNumbers why lines old new = (refused : List Bool) × (p : Played) × (numbers written : List ℕ)
      × IsPlay bounds refused lines p × (p.ended ≡ Well) × AreNumbers refused lines p numbers
      × IsBegun why (numbered_lines numbers p.history) written × Appends old new (render p.replies ++ written)

  -- lines that were broken off, before their end or after it
  abbrev pub BreaksNumberedLines : Broken → List (List ℕ) → Option (List ℕ) → Option (List ℕ) → Type 0
  BreaksNumberedLines why lines old new = BreaksLines bounds why lines old new ⊎ BreaksNumbers why lines old new

-- a script that ended has written the text of its replies and, where it ended well, of the
-- machine's steps of its run, each beside the number of its line, and nothing else
abbrev pub EndsNumbered : List ℕ → Option (List ℕ) → Option (List ℕ) → End → Type 0
EndsNumbered input old new ended = EndsNumberedLines (bounds_of (lines_of input)) (lines_of input) old new ended

-- one that was broken off has written a beginning of that: whole lines, unless a write failed
abbrev pub BreaksNumbered : Broken → List ℕ → Option (List ℕ) → Option (List ℕ) → Type 0
BreaksNumbered why input old new = BreaksNumberedLines (bounds_of (lines_of input)) why (lines_of input) old new
