-- Rows, and the sheet of a film: it says no sign that is not of the film, and leaves none out.
use Rattle.std.specs.Prelude.{◌≡◌, ◌↔◌, ℕ, zero, suc, Bool, IsTrue, cond, List, [], length, min, replicate, slice_get, Any, Option, Some, None}
use Rattle.tx_types.specs.declared.key.Key.{Key}
use Rattle.tx_cells.specs.declared.copies.KeyVersions.{KeyVersions}
use Rattle.tx_film.specs.declared.frame.Frame.{Frame}
use Rattle.tx_film.specs.declared.frame.KeyShown.{KeyShown}
use Rattle.tx_film.specs.Films.{FilmParts, takings_at, steps_at}
use Rattle.tx_sheet.specs.declared.row.Change.{Change}
use Rattle.tx_sheet.specs.declared.row.KeyRead.{KeyRead}
use Rattle.tx_sheet.specs.declared.row.Row.{Row}
use Rattle.tx_sheet.specs.declared.row.Sheet.{Sheet}
use Rattle.tx_sheet.specs.declared.row.Target.{Target}
use Rattle.tx_sheet.specs.Arrows.{IsBeyond, AreArrows}
use Rattle.tx_sheet.specs.Changes.{noted, ChangesOf}
use Rattle.tx_sheet.specs.Reads.{AreReads}

-- what a frame shows of keys
abbrev pub keys_in : Option Frame → List KeyShown
keys_in None = []
keys_in (Some f) = f.keys.items

abbrev pub shown_at : List Frame → ℕ → List KeyShown
shown_at frames place = keys_in (slice_get frames place)

-- what frames have shown of so many keys last, before the line at a place: at first nothing
abbrev pub last_before : ℕ → List Frame → ℕ → List (Option KeyVersions)
last_before count frames zero = replicate count None
last_before count frames (suc place) = noted (last_before count frames place) (shown_at frames place)

module _ (keys : List Key) (film : FilmParts) (machine : Bool) where
  -- the signs of the line at a place, where this was shown of keys last: the arrows of its
  -- requests, what they found, what changed by what is shown, and as many steps of the machine as
  -- came with it, where those are asked
  pub record HasSigns (last : List (Option KeyVersions)) (shown : List KeyShown) (place : ℕ) (to : List Target)
      (is_beyond : Bool) (found : List KeyRead) (changed : List Change) (made : ℕ) : Type 0 where
    pub arrows : AreArrows keys (takings_at film place) changed to
    pub beyond : IsTrue is_beyond ↔ Any (IsBeyond keys) (takings_at film place)
    pub reads : AreReads keys (takings_at film place) found
    pub changes : ChangesOf last shown shown changed
    pub steps : made ≡ cond machine (length (steps_at film place)) 0

  -- a row has the signs of the line at a place
  abbrev pub IsRowOf : ℕ → Row → Type 0
  IsRowOf place row = HasSigns (last_before (length keys) film.frames place) (shown_at film.frames place) place
      row.targets.items row.goes_beyond row.reads.items row.changes.items (length row.machine.items)

  -- rows are those of the first lines, each with the signs of its line
  pub record AreRows (count : ℕ) (rows : List Row) : Type 0 where
    pub many : length rows ≡ count
    pub signs : (place : ℕ) (row : Row) → slice_get rows place ≡ Some row → IsRowOf place row

  -- The sheet of a script of so many lines: a row for each line that was played, in order, which
  -- has just the signs that the film has of it, and a column for each key.
  pub record IsSheetOf (lines : ℕ) (sheet : Sheet) : Type 0 where
    pub rows : AreRows (min lines (length film.frames)) sheet.rows.items
    pub columns : length sheet.keys.items ≡ length keys
