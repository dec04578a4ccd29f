use Rattle.std.proofs.Common.{◌≡◌, map, take}
use Rattle.tx_page.specs.Shown.{script_text}
use Rattle.tx_page.proofs.Told.{now}
use Rattle.tx_page.proofs.lines.script_of.Given as goal

abbrev pub invariant-loop-line : goal.invariant-loop-line
invariant-loop-line l = l.text.items ≡ script_text (map now (take l.line-index l.lines))
