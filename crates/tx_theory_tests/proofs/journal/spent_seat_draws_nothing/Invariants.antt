use Rattle.tx_theory_tests.proofs.journal.spent_seat_draws_nothing.Given as goal

-- the journal that was just opened
abbrev pub ghosts-spend : goal.ghosts-spend
ghosts-spend g a = record { table = a.opened.table; bounds = a.opened.bounds; seats = a.opened.seats }
