use Rattle.std.proofs.Common.{refl, rules}
use Rattle.tx_text.proofs.TextLines.{kept_none, ended}
use Rattle.tx_text.proofs.lines.take_some.Goals as goal

pub returns-then-is_empty : goal.returns-then-is_empty
returns-then-is_empty g c =
    let keeps = c.fill_buf.follows.holds-at-none.0 in
    (refl, kept_none _ _ keeps, ended _ _ c.in-Ok.available.now c.in-Ok.ensures.end (search rules) keeps)
