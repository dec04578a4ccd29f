use Rattle.std.proofs.Common.{max, sym, ap, ◌∙◌, arith}
use Rattle.tx_core.specs.ReadMarks.{max_ts}
use Rattle.tx_journal.proofs.Moves.{raises}
use Rattle.tx_journal.proofs.seat.raise.Goals as goal

pub fetch_max-requires : goal.fetch_max-requires
fetch_max-requires g c =
    let size = c.requires.table.1 in
    let t = c.args.token.now in (
      c.requires.table.0,
      omega (arith, size),
      raises c.args.words.now.key c.args.words.now.table_id.slots t.id c.get.result t.me g.E.StepEvent.event
          c.requires.owns c.requires.right.0 c.requires.right.1 (c.requires.read
          ∙ ap (λ n. max (max_ts t.me.0.seen) n) (sym c.get.ensures)),
    )
