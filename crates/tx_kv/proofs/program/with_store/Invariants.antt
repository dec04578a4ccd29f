use Rattle.tx_kv.proofs.program.with_store.Given as goal

-- the journal that was just opened
abbrev pub ghosts-run_over : goal.ghosts-run_over
ghosts-run_over g a = record { table = a.opened.table; bounds = a.opened.bounds; seats = a.opened.seats }
