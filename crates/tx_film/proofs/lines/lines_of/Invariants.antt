use Rattle.std.proofs.Common.{length, ◌≡◌, ◌++◌, map}
use Rattle.tx_text.specs.Lines.{lines_of as lines_in}
use Rattle.tx_film.specs.Lines.{AreLines}
use Rattle.tx_film.proofs.lines.lines_of.Given as goal

abbrev pub invariant-lines : goal.invariant-lines
invariant-lines l = (map (λ line. line.now) l.lines.items ++ lines_in l.rest ≡ lines_in l.fn.text)
    × AreLines (map (λ line. line.now) l.lines.items)

abbrev pub decreases-lines : goal.decreases-lines
decreases-lines l = length l.rest
