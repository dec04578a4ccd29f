-- Which rows of a sheet a part of it has.
use Rattle.std.specs.Prelude.{◌≡◌, ◌&&◌, ◌||◌, ℕ, ◌+◌, Bool, true, false, cond, nat_le, nat_eq, List, [], ◌∷◌, ◌++◌, map, length, slice_get, Option, Some, None, bytes_eq, string_bytes}
use Rattle.std.specs.Borrow.{Bor}
use Rattle.std.specs.List.{list_any}
use Rattle.tx_sheet.specs.declared.row.Row.{Row}
use Rattle.tx_sheet.specs.declared.row.Session.{Session}
use Rattle.tx_sheet.specs.declared.row.Sheet.{Sheet}
use Rattle.tx_cut.specs.declared.cut.Cut.{Cut}
use Rattle.tx_cut.specs.declared.rows.ShownRow.{ShownRow}

-- whether a session has one of these names: each has where none is said
abbrev pub is_named : List (Bor (List ℕ)) → Session → Bool
is_named names session = nat_eq (length names) 0
    || list_any (λ name. bytes_eq name.now (string_bytes session.name)) names

-- whether the session at a place is named, of each of which it is said
abbrev pub at_named : Option Bool → Bool
at_named None = false
at_named (Some named) = named

-- whether a row is of a session that is named, or of none
abbrev pub is_of : List Bool → Option ℕ → Bool
is_of named None = true
is_of named (Some place) = at_named (slice_get named place)

-- whether the row of the line of this number is shown
abbrev pub is_shown : Cut → List Bool → ℕ → Row → Bool
is_shown cut named number row = nat_le cut.from number && nat_le number cut.to && is_of named row.session

-- the row of the line of this number, with that, if it is shown
abbrev pub if_shown : Cut → List Bool → ℕ → Row → List (ℕ × Row)
if_shown cut named number row = cond (is_shown cut named number row) ((number, row) ∷ []) []

-- of rows, the first of which is of the line behind this number, those that are shown, each with
-- its number
abbrev pub shown_behind : Cut → List Bool → ℕ → List Row → List (ℕ × Row)
shown_behind cut named number [] = []
shown_behind cut named number (row ∷ rows) =
    if_shown cut named (number + 1) row ++ shown_behind cut named (number + 1) rows

-- a row that is shown, and its number
abbrev pub numbered : ShownRow → ℕ × Row
numbered shown = (shown.number, shown.row.now)

-- The rows of a part: of the sheet's, in order, each that is of a line and a session asked for, and
-- no other.
abbrev pub IsCut : Cut → Sheet → List ShownRow → Type 0
IsCut cut sheet rows = map numbered rows
    ≡ shown_behind cut (map (is_named cut.sessions.now) sheet.sessions.items) 0 sheet.rows.items
