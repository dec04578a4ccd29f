use Rattle.std.proofs.Common.{sym, subst}
use Rattle.tx_film.specs.Films.{Films}
use Rattle.tx_film.proofs.Reels.{films}
use Rattle.tx_film.proofs.film.film_of.Goals as goal

pub returns-in-Some-new : goal.returns-in-Some-new
returns-in-Some-new g c shown lines ended =
    let bounds = g.J.JournalId.bounds in
    let e = c.in-Some-new.ensures in
    subst (Films bounds shown lines) (sym e.2)
    (films bounds shown c.args.player c.in-Some.ensures.came c.in-Some.ensures.run c.in-Some.trace
    (sym c.in-Some.ensures.trace) e.0 e.1 lines c.args.frames.items c.args.end ended)
