use Rattle.std.proofs.Common.{◌+◌, ◌-◌, ◌≤◌, length, option_map, IfSome}
use Rattle.tx_types.specs.declared.limits.TheConstants.{MAX_LINES}
use Rattle.tx_network.specs.Networks.{IsTraced}
use Rattle.tx_engine.specs.Slots.{own}
use Rattle.tx_script.proofs.Scripts.{Counts}
use Rattle.tx_script.proofs.Lines.{OnBy}
use Rattle.tx_script.proofs.NumberedLines.{NumbersBy}
use Rattle.tx_script.proofs.script.play_lines.Given as goal

abbrev pub invariant-lines : goal.invariant-lines
invariant-lines g l = Counts g.J.JournalId.bounds l.number l.engine × (l.number ≤ MAX_LINES)
    × OnBy g.J.JournalId.bounds l.fn.first l.fn.line.items (g.R.Read.remaining l.fn.reader)
    (g.W.Write.contents l.fn.writer) l.found l.line.items (g.R.Read.remaining l.reader)
    (g.W.Write.contents l.writer) l.number l.engine
    × (length l.engine.network.newest ≤ own l.engine → IsTraced l.fn.engine.network → IsTraced l.engine.network)
    × (IsTraced l.fn.engine.network → IfSome (option_map (λ v. v.items) l.numbers) (NumbersBy g.J.JournalId.bounds
    l.fn.first l.fn.line.items (g.R.Read.remaining l.fn.reader) (g.W.Write.contents l.fn.writer) l.found l.line.items
    (g.R.Read.remaining l.reader) (g.W.Write.contents l.writer) l.number l.engine))

abbrev pub decreases-lines : goal.decreases-lines
decreases-lines g l = (MAX_LINES + 1) - l.number
