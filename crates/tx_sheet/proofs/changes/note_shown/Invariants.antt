use Rattle.std.proofs.Common.{◌≡◌, Bor, map, drop, option_map}
use Rattle.tx_cells.specs.declared.copies.KeyVersions.{KeyVersions}
use Rattle.tx_sheet.specs.Changes.{noted}
use Rattle.tx_sheet.proofs.changes.note_shown.Given as goal

abbrev pub invariant-shown : goal.invariant-shown
invariant-shown l = noted (map (option_map (λ (s : Bor KeyVersions). s.now)) l.last.items) (drop l.said-index l.shown)
    ≡ noted (map (option_map (λ (s : Bor KeyVersions). s.now)) l.fn.last.items) l.shown
