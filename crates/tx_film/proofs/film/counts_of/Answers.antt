use Rattle.tx_film.proofs.Reels.{counted}
use Rattle.tx_film.proofs.film.counts_of.Goals as goal

pub returns-in-Some-Some : goal.returns-in-Some-Some
returns-in-Some-Some g c = counted c.args.player.now.engine.network c.in-Some-Some.takings.now c.in-Some-Some.steps
    c.in-Some-Some.ensures c.in-Some-Some.ensures'
