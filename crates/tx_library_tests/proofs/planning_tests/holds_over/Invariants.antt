use Rattle.tx_library_tests.proofs.planning_tests.holds_over.Given as goal

-- the journal that was just opened
abbrev pub ghosts-played : goal.ghosts-played
ghosts-played g a = record { table = a.opened.table; bounds = a.opened.bounds; seats = a.opened.seats }
