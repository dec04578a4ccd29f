use Rattle.std.proofs.Common.{◌≡◌, Bor, length, map, option_map, sym, ap, arith}
use Rattle.tx_cells.specs.declared.copies.KeyVersions.{KeyVersions}
use Rattle.tx_sheet.specs.declared.row.Row.{Row}
use Rattle.tx_sheet.specs.Rows.{keys_in, shown_at, last_before}
use Rattle.tx_sheet.proofs.MoreRows.{signs_here, rows_more}
use Rattle.tx_sheet.proofs.sheet.put_row.Goals as goal

pub returns-clause-rows : goal.returns-clause-rows
returns-clause-rows c place at was h =
    let keys = c.args.of.keys.now in
    let film = c.args.of.film.now in
    let machine = c.args.of.machine in
    let rows = c.args.rows.now in
    let signs = c.in_ok-signs.signs in
    let words = c.in_ok-words.words in
    let here : c.len-place.result ≡ place = omega (arith, c.len-place.ensures, rows.ok.0, h.many) in
    let row : Row = record {
      kind = words.kind;
      session = words.session;
      step = words.step;
      sending = words.sending;
      held = words.held;
      answer = words.answer;
      reason = words.reason;
      targets = signs.targets;
      goes_beyond = signs.goes_beyond;
      reads = signs.reads;
      changes = signs.changes;
      machine = signs.machine;
    } in
    rw c.in_ok-push.ensures.items (rows_more keys film machine place rows.items row h
    (signs_here keys film machine (map (option_map (λ (s : Bor KeyVersions). s.now)) c.args.last.now.items)
    (last_before (length keys) film.frames place) c.args.frame.now.keys.items (shown_at film.frames place)
    c.len-place.result place signs.targets.items signs.goes_beyond signs.reads.items signs.changes.items
    (length signs.machine.items) (rw c.as_slice.ensures.value at c.in_ok-signs.ensures) was
    (sym (ap keys_in at)) here))
