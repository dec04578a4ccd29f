use Rattle.tx_library_tests.proofs.store_tests.plays.Given as goal

-- the journal that was just opened
abbrev pub ghosts-goes_well : goal.ghosts-goes_well
ghosts-goes_well g a = record { table = a.opened.table; bounds = a.opened.bounds; seats = a.opened.seats }
