use Rattle.std.proofs.Common.{◌≡◌, take}
use Rattle.tx_script.specs.Play.{render}
use Rattle.tx_film.specs.Films.{replies_from}
use Rattle.tx_page.proofs.lines.told_of.Given as goal

abbrev pub invariant-loop-place : goal.invariant-loop-place
invariant-loop-place l = l.text.items ≡ render (replies_from 0 (take l.place l.frames))
