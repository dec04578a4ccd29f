-- What a page has of a film.
use Rattle.std.specs.Prelude.{◌≡◌, ℕ, List, [], ◌∷◌, ◌++◌, reverse}
use Rattle.std.specs.List.{flat_map}
use Rattle.serde_json.specs.Written.{compact_text}
use Rattle.tx_text.specs.Texts.{text_of}
use Rattle.tx_check.specs.Steps.{step_text}
use Rattle.tx_script.specs.Play.{render}
use Rattle.tx_film.specs.Films.{FilmParts, replies_from}
use Rattle.tx_html.specs.declared.page.PageFrame.{PageFrame}
use Rattle.tx_html.specs.declared.page.PageParts.{PageParts}
use Rattle.tx_html.specs.Pages.{page_text}

-- a line of a script as a JSON string, and a newline
abbrev pub quoted_line : List ℕ → List ℕ
quoted_line line = compact_text (text_of line) ++ 10 ∷ []

-- lines of a script
abbrev pub script_text : List (List ℕ) → List ℕ
script_text lines = flat_map quoted_line lines

-- The page of a film of these lines: its data is the script, line by line; the very text that is
-- written for the replies; and that of the machine's steps.
pub record PageOf (lines : List (List ℕ)) (film : FilmParts) (text : List ℕ) : Type 0 where
  pub frame : PageFrame
  pub parts : PageParts
  pub is : text ≡ page_text frame parts
  pub script : parts.script.now ≡ script_text lines
  pub replies : parts.replies.now ≡ render (replies_from 0 film.frames)
  pub steps : parts.steps.now ≡ flat_map step_text (reverse film.steps)
