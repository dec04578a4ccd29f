use Rattle.std.proofs.Common.{◌≡◌, map, take}
use Rattle.tx_cut.specs.Parts.{shown_behind, numbered}
use Rattle.tx_cut.proofs.rows.rows_of.Given as goal

abbrev pub invariant-loop-place : goal.invariant-loop-place
invariant-loop-place l = map numbered l.shown.items ≡ shown_behind l.cut l.named 0 (take l.place l.rows)
