use Rattle.std.proofs.Common.{◌≡◌, ◌+◌, length, map, take}
use Rattle.tx_script.specs.Players.{IsPlayer}
use Rattle.tx_film.specs.Filmed.{HasFilmed}
use Rattle.tx_film.proofs.film.film_over.Given as goal

abbrev pub invariant-lines : goal.invariant-lines
invariant-lines g l = IsPlayer g.J.JournalId.bounds l.player
    × (l.player.left + length l.frames.items ≡ 4294967295)
    × (l.player.number ≡ length l.frames.items)
    × HasFilmed g.J.JournalId.bounds l.keys (map (λ line. line.now) (take l.line-index l.lines)) l.frames.items l.player
