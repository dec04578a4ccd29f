-- The lines of a text.
use Rattle.std.specs.Prelude.{◌≡◌, ℕ, ◌<◌, ◌≤◌, ◌==◌, List, [], ◌∷◌, ◌++◌, ◌≢◌, All, IfSome, length, if◌then◌else◌, Option, Some}
use Rattle.std.specs.Io.KnownBytes.{Consumes, IsAtEnd}
use Rattle.tx_types.specs.declared.limits.TheConstants.{MAX_LINE_BYTES, MAX_LINES}
use Rattle.tx_text.specs.declared.lines.Took.{Took}
use Rattle.tx_text.specs.declared.lines.Took.TheVariants.{Nothing, Part, Rest}
use Rattle.tx_text.specs.declared.lines.Found.{Found}
use Rattle.tx_text.specs.declared.lines.Found.TheVariants.{Line, Long, End}

-- the lines, with the byte at the front of the first
abbrev pub onto_first : ℕ → List (List ℕ) → List (List ℕ)
onto_first x [] = (x ∷ []) ∷ []
onto_first x (line ∷ lines) = (x ∷ line) ∷ lines

-- the lines of a text, each ended by a newline or by the end: the last newline begins no line
abbrev pub lines_of : List ℕ → List (List ℕ)
lines_of [] = []
lines_of (x ∷ xs) = if x == 10 then [] ∷ lines_of xs else onto_first x (lines_of xs)

-- the most bytes of a line, without its newline
abbrev pub max_line : ℕ
max_line = MAX_LINE_BYTES

-- the most lines of a text
abbrev pub max_lines : ℕ
max_lines = MAX_LINES

-- what stands first in the bytes, and what is left of them
abbrev pub ReadsLine : List ℕ → Option (List ℕ) → Found → List ℕ → Type 0
ReadsLine bytes left Line line = (rest : List ℕ) × (left ≡ Some rest) × (length line ≤ max_line)
    × (lines_of bytes ≡ line ∷ lines_of rest)
ReadsLine bytes left Long line = (first : List ℕ) × (more : List (List ℕ)) × (max_line < length first)
    × (lines_of bytes ≡ first ∷ more)
ReadsLine bytes left End line = bytes ≡ []

-- no byte of the line is a newline
abbrev pub NoNewline : List ℕ → Type 0
NoNewline line = All (λ x. x ≢ 10) line

-- this line comes first in the bytes, and then its newline
abbrev pub IsFirstLine : List ℕ → List ℕ → Type 0
IsFirstLine line bytes = (rest : List ℕ) × (bytes ≡ line ++ 10 ∷ rest) × NoNewline line

-- what was taken of known bytes, and put at the end of a line
abbrev pub TakesBytes : Option (List ℕ) → Option (List ℕ) → List ℕ → List ℕ → Took → Type 0
TakesBytes old new before after Nothing = (after ≡ before) × Consumes old new [] × IfSome old (λ _. IsAtEnd new)
TakesBytes old new before after Part = (bs : List ℕ) × (after ≡ before ++ bs) × NoNewline bs
    × Consumes old new bs
TakesBytes old new before after Rest = (bs : List ℕ) × (after ≡ before ++ bs) × NoNewline bs
    × Consumes old new (bs ++ 10 ∷ [])
