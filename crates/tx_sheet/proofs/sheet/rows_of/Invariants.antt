use Rattle.std.proofs.Common.{◌≡◌, Bor, length, map, option_map}
use Rattle.tx_cells.specs.declared.copies.KeyVersions.{KeyVersions}
use Rattle.tx_sheet.specs.Rows.{last_before, AreRows}
use Rattle.tx_sheet.proofs.sheet.rows_of.Given as goal

abbrev pub invariant-frames : goal.invariant-frames
invariant-frames l =
    (map (option_map (λ (s : Bor KeyVersions). s.now)) l.last.items
    ≡ last_before (length l.of.keys.now) l.of.film.now.frames l.place)
    × AreRows l.of.keys.now l.of.film.now l.of.machine l.place l.rows.items
