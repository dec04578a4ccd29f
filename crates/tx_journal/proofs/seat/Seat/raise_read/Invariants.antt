use Rattle.tx_journal.proofs.seat.Seat.raise_read.Given as goal

-- the event is the one that is recorded
abbrev pub ghosts-raise_by_this : goal.ghosts-raise_by_this
ghosts-raise_by_this g a = record { event = a.event.now }
