use Rattle.tx_film.proofs.Reels.{stands_on}
use Rattle.tx_film.proofs.film.show_keys.Goals as goal

pub places-preserved : goal.places-preserved
places-preserved g c =
    let bounds = g.J.JournalId.bounds in (
      c.in_ok-show_at.ensures.player,
      stands_on bounds c.args.keys.now c.args.player.now c.places.player c.show_at.new.player c.places.invariant.1
          c.in_ok-show_at.ensures.same,
      c.in_ok-show_at.ensures.shows c.places.invariant.2,
    )
