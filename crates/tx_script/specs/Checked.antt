-- What is written of a script that is checked: its replies, and where it ended well also the
-- machine's steps of its run.
use Rattle.std.specs.Prelude.{◌≡◌, ◌⊎◌, ℕ, List, [], ◌∷◌, ◌++◌, map, reverse, Bool, Option}
use Rattle.std.specs.List.{concat}
use Rattle.std.specs.Io.KnownBytes.{Appends}
use Rattle.tx_types.specs.declared.key.Key.{Key}
use Rattle.tx_core.specs.Histories.{History}
use Rattle.tx_core.specs.Shadow.{shadow}
use Rattle.tx_text.specs.declared.end.Broken.{Broken}
use Rattle.tx_text.specs.declared.end.Broken.TheVariants.{Output}
use Rattle.tx_text.specs.declared.end.End.{End}
use Rattle.tx_text.specs.declared.end.End.TheVariants.{Well, Faulted}
use Rattle.tx_text.specs.declared.end.End.TheVariants as ended
use Rattle.tx_text.specs.Lines.{lines_of}
use Rattle.tx_check.specs.Steps.{step_text}
use Rattle.tx_text.specs.Texts.{line_text}
use Rattle.tx_check.specs.declared.words.Verdict.TheVariants.{Yes}
use Rattle.tx_check.specs.Words.{words}
use Rattle.tx_evidence.specs.Lines.{bounds_of}
use Rattle.tx_script.specs.Play.{Played, render, IsPlay, BreaksLines}

-- the lines that follow the replies of a run: the machine's steps that are read off it, oldest
-- first, and that they are a run
abbrev pub step_lines : History → List (List ℕ)
step_lines h = map step_text (reverse (shadow h)) ++ line_text (words Yes) ∷ []

-- the text that follows the replies of a script that ended so
abbrev pub steps_told : End → History → List ℕ
steps_told Well h = concat (step_lines h)
steps_told Faulted h = []
steps_told ended.No h = []

-- a beginning of the text of lines: whole lines, unless a write failed
abbrev pub IsBegun : Broken → List (List ℕ) → List ℕ → Type 0
IsBegun why lines written = ((first rest : List (List ℕ)) × (lines ≡ first ++ rest) × (written ≡ concat first))
    ⊎ ((more : List ℕ) × (concat lines ≡ written ++ more) × (why ≡ Output))

module _ (bounds : List Key) where
  -- lines that were played to their end: the replies of their only play were written, and
  -- what follows them
  abbrev pub EndsCheckedLines : List (List ℕ) → Option (List ℕ) → Option (List ℕ) → End → Type 0
  EndsCheckedLines lines old new ended = (refused : List Bool) × (p : Played) × IsPlay bounds refused lines p
      × Appends old new (render p.replies ++ steps_told p.ended p.history) × (ended ≡ p.ended)

  -- lines that ended well, and then were broken off: their replies were written, and a beginning of
  -- what follows them
  abbrev pub BreaksSteps : Broken → List (List ℕ) → Option (List ℕ) → Option (List ℕ) → Type 0
  BreaksSteps why lines old new = (refused : List Bool) × (p : Played) × (written : List ℕ)
      × IsPlay bounds refused lines p × (p.ended ≡ Well)
      × IsBegun why (step_lines p.history) written × Appends old new (render p.replies ++ written)

  -- lines that were broken off, before their end or after it
  abbrev pub BreaksCheckedLines : Broken → List (List ℕ) → Option (List ℕ) → Option (List ℕ) → Type 0
  BreaksCheckedLines why lines old new = BreaksLines bounds why lines old new ⊎ BreaksSteps why lines old new

-- a checked script that ended has written the text of its replies and, where it ended well, of the
-- machine's steps of its run, and nothing else
abbrev pub EndsChecked : List ℕ → Option (List ℕ) → Option (List ℕ) → End → Type 0
EndsChecked input old new ended = EndsCheckedLines (bounds_of (lines_of input)) (lines_of input) old new ended

-- a checked script that was broken off has written a beginning of that: whole lines,
-- unless a write failed
abbrev pub BreaksChecked : Broken → List ℕ → Option (List ℕ) → Option (List ℕ) → Type 0
BreaksChecked why input old new = BreaksCheckedLines (bounds_of (lines_of input)) why (lines_of input) old new
