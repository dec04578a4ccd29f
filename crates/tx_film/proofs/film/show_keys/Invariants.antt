use Rattle.tx_script.specs.Players.{IsPlayer}
use Rattle.tx_film.specs.Filmed.{Stands, AreShown}
use Rattle.tx_film.proofs.film.show_keys.Given as goal

abbrev pub invariant-places : goal.invariant-places
invariant-places g l = IsPlayer g.J.JournalId.bounds l.player × Stands g.J.JournalId.bounds l.fn.player l.player
    × AreShown g.J.JournalId.bounds l.keys l.player.engine l.shown.items
