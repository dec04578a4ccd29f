use Rattle.tx_theory_tests.proofs.journal.region_replies.Given as goal

-- the journal that was just opened
abbrev pub ghosts-reply_to_one : goal.ghosts-reply_to_one
ghosts-reply_to_one g a = record { table = a.opened.table; bounds = a.opened.bounds; seats = a.opened.seats }
