use Rattle.tx_script.proofs.simulation.play.Given as goal

-- the journal that was just opened
abbrev pub ghosts-over : goal.ghosts-over
ghosts-over g a = record { table = a.opened.table; bounds = a.opened.bounds; seats = a.opened.seats }
