use Rattle.std.specs.Prelude.{true, drop, ◌+◌}
use Rattle.tx_text.proofs.TextLines.{split_at_newline}
use Rattle.tx_text.proofs.lines.whole_line.Goals as goal

pub returns-clause-first : goal.returns-clause-first
returns-clause-first c =
    let at = c.before_newline-len.result.0 in
    let found = c.before_newline-len.ensures.found c.if-not-found.false in (
      drop (at + 1) c.args.bytes.now,
      split_at_newline c.args.bytes.now at found.0 found.1,
      c.before_newline-len.ensures.before,
    )
