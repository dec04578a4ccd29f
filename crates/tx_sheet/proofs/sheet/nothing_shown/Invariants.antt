use Rattle.std.proofs.Common.{◌≡◌, Bor, None, map, option_map, replicate}
use Rattle.tx_cells.specs.declared.copies.KeyVersions.{KeyVersions}
use Rattle.tx_sheet.proofs.sheet.nothing_shown.Given as goal

abbrev pub invariant-count : goal.invariant-count
invariant-count l = map (option_map (λ (s : Bor KeyVersions). s.now)) l.last.items ≡ replicate l._i None
