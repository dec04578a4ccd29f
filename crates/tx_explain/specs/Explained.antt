-- What `explain` plays and writes.
use Rattle.std.specs.Prelude.{◌≡◌, ℕ, List, Option}
use Rattle.std.specs.Io.KnownBytes.{Appends}
use Rattle.tx_text.specs.declared.end.End.{End}
use Rattle.tx_types.specs.declared.key.Key.{Key}
use Rattle.tx_types.specs.Keys.{AreRising}
use Rattle.tx_evidence.specs.Lines.{bounds_of}
use Rattle.tx_film.specs.Films.{FilmParts, Films}
use Rattle.tx_page.specs.Shown.{PageOf}
use Rattle.tx_explain.specs.declared.options.PictureForm.{PictureForm}
use Rattle.tx_explain.specs.declared.options.PictureForm.TheVariants.{Text, Drawing, Page}

-- what a text shows of a film of these lines: a page has just its data; of the others any is one
abbrev pub Shows : PictureForm → List (List ℕ) → FilmParts → List ℕ → Type 0
Shows Page lines film text = PageOf lines film text
Shows Drawing lines film text = Unit {0}
Shows Text lines film text = Unit {0}

-- The script was played, its own lines and no others, up to a fault, its film has all of what
-- happened, and of some keys, which rise, what stood on them; and one text was written, which shows
-- that film.
abbrev pub Explains : PictureForm → List (List ℕ) → Option (List ℕ) → Option (List ℕ) → End → Type 0
Explains form lines old new ended = (keys : List Key) × AreRising keys × (film : FilmParts)
    × Films (bounds_of lines) keys lines film × (ended ≡ film.ended)
    × ((text : List ℕ) × Appends old new text × Shows form lines film text)
