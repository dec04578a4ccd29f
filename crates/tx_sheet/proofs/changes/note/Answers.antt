use Rattle.std.proofs.Common.{Bor, Some, option_map}
use Rattle.std.proofs.lemmas.List.{map-set}
use Rattle.tx_cells.specs.declared.copies.KeyVersions.{KeyVersions}
use Rattle.tx_sheet.proofs.changes.note.Goals as goal

pub returns-then-key-len : goal.returns-then-key-len
returns-then-key-len c =
    map-set (option_map (λ (s : Bor KeyVersions). s.now)) c.args.last.now.items c.args.key (Some c.args.shown)
