use Rattle.tx_run.proofs.run.run_script.Given as goal

-- the bytes that the reader holds
abbrev pub ghosts-run : goal.ghosts-run
ghosts-run g a = record { text = g.B.Read.remaining a.reader.now }
