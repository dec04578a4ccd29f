use Rattle.std.proofs.Common.{◌≡◌, ◌<◌, Bor, length, take, map, option_map, min, subst, ap, arith}
use Rattle.std.proofs.lemmas.List.{length-take}
use Rattle.tx_cells.specs.declared.copies.KeyVersions.{KeyVersions}
use Rattle.tx_sheet.specs.Rows.{AreRows}
use Rattle.tx_sheet.proofs.MoreRows.{no_rows, last_more, among_first}
use Rattle.tx_sheet.proofs.sheet.rows_of.Goals as goal

pub frames-init : goal.frames-init
frames-init c = (
  c.in_ok-last.ensures,
  rw c.new-rows.ensures.items (no_rows c.args.of.keys.now c.args.of.film.now c.args.of.machine),
)

pub frames-preserved : goal.frames-preserved
frames-preserved c =
    let film = c.args.of.film.now in
    let all = c.frames-frames.result.now in
    let i = c.frames.place in
    let frame = c.index-played-place.result in
    let within : i < length (take c.fewer.result all) = omega (arith, c.frames-test.true) in
    let at = rw c.frames-frames.ensures at (among_first all c.fewer.result i frame within c.index-played-place.is) in (
      last_more (length c.args.of.keys.now) film.frames i frame
          (map (option_map (λ (s : Bor KeyVersions). s.now)) c.frames.last.items)
          (map (option_map (λ (s : Bor KeyVersions). s.now)) c.put_row.new.last.items) at c.frames.invariant.0
          c.in_ok-put_row.ensures.last,
      c.in_ok-put_row.ensures.rows i at c.frames.invariant.0 c.frames.invariant.1,
    )

pub returns : goal.returns
returns c =
    let keys = c.args.of.keys.now in
    let film = c.args.of.film.now in
    let lines = c.args.lines.now in
    let all = c.frames-frames.result.now in
    let end : c.frames.place ≡ min (length lines) (length film.frames) = omega (
      arith,
      c.frames-test.false,
      c.frames.auto.place-end,
      c.fewer.ensures,
      length-take c.fewer.result all,
      ap (λ l. length l) c.frames-frames.ensures,
    ) in
    subst (λ n. AreRows keys film c.args.of.machine n c.frames.rows.items) end c.frames.invariant.1
