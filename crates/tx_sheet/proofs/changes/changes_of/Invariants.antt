use Rattle.std.proofs.Common.{Bor, map, take, option_map}
use Rattle.tx_cells.specs.declared.copies.KeyVersions.{KeyVersions}
use Rattle.tx_sheet.specs.Changes.{ChangesOf}
use Rattle.tx_sheet.proofs.changes.changes_of.Given as goal

abbrev pub invariant-shown : goal.invariant-shown
invariant-shown l =
    ChangesOf (map (option_map (λ (s : Bor KeyVersions). s.now)) l.last) l.shown (take l.said-index l.shown)
    l.changes.items
