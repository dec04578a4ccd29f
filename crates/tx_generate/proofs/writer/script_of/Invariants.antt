use Rattle.tx_generate.proofs.writer.script_of.Given as goal

-- the journal that was just opened
abbrev pub ghosts-script_over : goal.ghosts-script_over
ghosts-script_over g a = record { table = a.opened.table; bounds = a.opened.bounds; seats = a.opened.seats }
