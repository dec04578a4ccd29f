use Rattle.tx_theory_tests.proofs.journal.eight_threads_draw.Given as goal

-- the journal that was just opened
abbrev pub ghosts-draw_at_once : goal.ghosts-draw_at_once
ghosts-draw_at_once g a = record { table = a.opened.table; bounds = a.opened.bounds; seats = a.opened.seats }
