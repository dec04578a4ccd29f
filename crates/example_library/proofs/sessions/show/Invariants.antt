use Rattle.example_library.proofs.sessions.show.Given as goal

-- the journal that was just opened
abbrev pub ghosts-run : goal.ghosts-run
ghosts-run g a = record { table = a.opened.table; bounds = a.opened.bounds; seats = a.opened.seats }
