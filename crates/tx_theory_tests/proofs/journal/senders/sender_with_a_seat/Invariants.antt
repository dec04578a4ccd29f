use Rattle.tx_theory_tests.proofs.journal.senders.sender_with_a_seat.Given as goal

-- the journal that was just opened
abbrev pub ghosts-asks : goal.ghosts-asks
ghosts-asks g a = record { table = a.opened.table; bounds = a.opened.bounds; seats = a.opened.seats }
