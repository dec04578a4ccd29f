use Rattle.tx_script.proofs.Lines.{line_consumed}
use Rattle.tx_script.proofs.next.play_at_hand.Goals as goal

pub returns-clause-turned : goal.returns-clause-turned
returns-clause-turned g c =
    let line = c.in-Some.line.now in
    let first = c.in-Some.ensures.first in
    let fills = rw c.in-Ok.is at c.fill_buf.follows.holds-at-none in
    let came = c.in_ok-turned.ensures in
    record {
      text = line;
      plain = first.2;
      short = c.in-Some.ensures.short;
      consumed = line_consumed _ _ _ (g.R.BufRead.consumable_len c.fill_buf.follows.lender-at-none)
          c.in-Ok.available.now line c.in-Ok.ensures.front fills.0 fills.1 c.consume.ensures.bytes first;
      goes = came.goes;
      fits = came.fits;
      early = came.early;
      notes = came.notes;
    }
