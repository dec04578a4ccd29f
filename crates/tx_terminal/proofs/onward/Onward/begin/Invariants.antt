use Rattle.tx_terminal.proofs.onward.Onward.begin.Given as goal

-- the journal that was just opened
abbrev pub ghosts-play : goal.ghosts-play
ghosts-play g a = record { table = a.opened.table; bounds = a.opened.bounds; seats = a.opened.seats }
