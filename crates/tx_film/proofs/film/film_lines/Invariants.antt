use Rattle.tx_film.proofs.film.film_lines.Given as goal

-- the journal that was just opened
abbrev pub ghosts-film_over : goal.ghosts-film_over
ghosts-film_over g a = record { table = a.opened.table; bounds = a.opened.bounds; seats = a.opened.seats }
