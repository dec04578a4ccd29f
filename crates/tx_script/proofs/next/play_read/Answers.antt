use Rattle.std.proofs.Common.{sym, subst}
use Rattle.tx_engine.specs.Slots.{Held, Goes}
use Rattle.tx_text.specs.declared.lines.Found.TheVariants.{Line}
use Rattle.tx_script.specs.Loops.{Ahead, FoundTurned}
use Rattle.tx_script.proofs.Lines.{taken_ahead, read_ahead, found_next}
use Rattle.tx_script.proofs.next.play_read.Goals as goal

pub returns-in-Some-clause-turned : goal.returns-in-Some-clause-turned
returns-in-Some-clause-turned g c =
    let came = rw c.in-Some.is at c.in_ok-turned.ensures.turned in
    record {
      found = Line;
      text = came.text;
      ahead = taken_ahead c.args.line.now.items came.text (g.R.Read.remaining c.args.reader.now)
          (g.R.Read.remaining c.play_at_hand.new.reader) came.plain came.consumed;
      goes = came.goes;
      fits = came.fits;
      early = came.early;
      notes = came.notes;
    }

pub returns-clause-turned : goal.returns-clause-turned
returns-clause-turned g c =
    let none = rw c.in_default.is at c.in_ok-turned.ensures.none in
    let came = c.play_found.ensures in
    found_next c.play_found.result _ _ _ _ _ came.goes came.fits came.early came.notes (λ t goes fits early notes.
    record {
      found = c.in_ok-found.found;
      text = c.as_slice.result.now;
      ahead = λ lines a. subst (λ l. Ahead c.in_ok-found.found l (g.R.Read.remaining c.read_line.new.reader) lines)
          (sym c.as_slice.ensures.value)
          (read_ahead c.in_ok-found.found c.args.line.now.items c.read_line.new.line.items
          (g.R.Read.remaining c.args.reader.now) (g.R.Read.remaining c.play_at_hand.new.reader)
          (g.R.Read.remaining c.read_line.new.reader) none.0 c.in_ok-found.ensures.reads lines a);
      goes = subst (λ (e : Held). Goes g.J.JournalId.bounds e c.play_found.new.engine
          (FoundTurned g.J.JournalId.bounds c.args.number c.in_ok-found.found c.as_slice.result.now t e
          c.play_found.new.engine)) none.1 goes;
      fits = fits;
      early = early;
      notes = notes;
    })
