use Rattle.tx_library_tests.proofs.update_tests.updates.holds.Given as goal

-- the journal that was just opened
abbrev pub ghosts-plays : goal.ghosts-plays
ghosts-plays g a = record { table = a.opened.table; bounds = a.opened.bounds; seats = a.opened.seats }
