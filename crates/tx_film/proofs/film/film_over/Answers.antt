use Rattle.std.proofs.Common.{◌<◌, ◌+◌, [], ℕ, List, Bor, map, take, take_all, drop, get_or, length, sym, subst, arith}
use Rattle.tx_film.specs.Films.{FilmParts, Films}
use Rattle.tx_film.specs.Filmed.{HasFilmed, Halted}
use Rattle.tx_film.proofs.Parts.{one_line, split_line, if_ok_by}
use Rattle.tx_film.proofs.film.film_over.Goals as goal

abbrev now : Bor (List ℕ) → List ℕ
now line = line.now

abbrev none : Bor (List ℕ)
none = record { ref_ptr = (0, 0); now = [] }

pub returns-in-Some : goal.returns-in-Some
returns-in-Some g c =
    let bounds = g.J.JournalId.bounds in
    let shown = c.args.keys.now in
    let xs = c.args.lines.now in
    let i = c.lines.line-index in
    let within : i < length xs = omega (arith, c.lines-test.true) in
    let stops = rw c.in-Some.is at c.in_ok-cause.ensures.stops in
    let halted : Halted bounds shown (map now xs) c.film_line.new.frames.items c.film_line.new.player = record {
      first = map now (take i xs);
      line = now (get_or xs i none);
      rest = map now (drop (i + 1) xs);
      before = c.lines.frames.items;
      cause = c.in-Some.cause;
      split = split_line now xs i none within;
      stops = stops (map now (take i xs)) c.lines.invariant.3;
    } in
    if_ok_by _ (λ (film : FilmParts). Films c.args.opened.bounds shown (map now xs) film) c.film_of.result
    (λ film made. subst (λ b. Films b shown (map now xs) film) (sym c.requires.named.1)
    (made shown (map now xs) halted))
    c.film_of.ensures

pub lines-preserved : goal.lines-preserved
lines-preserved g c =
    let bounds = g.J.JournalId.bounds in
    let shown = c.args.keys.now in
    let xs = c.args.lines.now in
    let i = c.lines.line-index in
    let within : i < length xs = omega (arith, c.lines-test.true) in
    let goes = rw c.in_default.is at c.in_ok-cause.ensures.goes in
    let tries = rw c.in_default.is at c.in_ok-cause.ensures.tries in
    let number = rw c.in_default.is at c.in_ok-cause.ensures.number in (
      c.in_ok-cause.ensures.player,
      tries,
      number,
      subst (λ ls. HasFilmed bounds shown ls c.film_line.new.frames.items c.film_line.new.player)
          (sym (one_line now xs i none within)) (goes (map now (take i xs)) c.lines.invariant.3),
    )

pub returns : goal.returns
returns g c =
    let bounds = g.J.JournalId.bounds in
    let shown = c.args.keys.now in
    let xs = c.args.lines.now in
    let i = c.lines.line-index in
    let filmed : HasFilmed bounds shown (map now xs) c.lines.frames.items c.lines.player =
    subst (λ ys. HasFilmed bounds shown (map now ys) c.lines.frames.items c.lines.player)
    (take_all i xs (omega (arith, c.lines-test.false))) c.lines.invariant.3 in
    if_ok_by _ (λ (film : FilmParts). Films c.args.opened.bounds shown (map now xs) film) c.film_of-2.result
    (λ film made. subst (λ b. Films b shown (map now xs) film) (sym c.requires.named.1)
    (made shown (map now xs) filmed))
    c.film_of-2.ensures
