use Rattle.std.proofs.Common.{◌≤◌, length}
use Rattle.std.specs.Io.KnownBytes.{Consumes}
use Rattle.tx_text.specs.Lines.{NoNewline, max_line}
use Rattle.tx_text.proofs.lines.read_line.Given as goal

abbrev pub invariant-parts : goal.invariant-parts
invariant-parts g l =
    (length l.line.items ≤ max_line) × NoNewline l.line.items
    × Consumes (g.R.Read.remaining l.fn.reader) (g.R.Read.remaining l.reader) l.line.items
