use Rattle.tx_theory_tests.proofs.journal.read_raises_the_mark_of_all_seats.Given as goal

-- the journal that was just opened
abbrev pub ghosts-read_once : goal.ghosts-read_once
ghosts-read_once g a = record { table = a.opened.table; bounds = a.opened.bounds; seats = a.opened.seats }
