use Rattle.std.proofs.Common.{map, take, length}
use Rattle.std.specs.List.{concat, zip}
use Rattle.std.specs.Io.KnownBytes.{Appends}
use Rattle.tx_check.specs.Steps.{beside_text}
use Rattle.tx_script.proofs.line_numbers.write_each.Given as goal

abbrev pub invariant-steps : goal.invariant-steps
invariant-steps g l = Appends (g.W.Write.contents l.fn.writer) (g.W.Write.contents l.writer)
    (concat (map beside_text (take (length l.yielded) (zip l.numbers l.steps))))
