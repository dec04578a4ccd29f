use Rattle.tx_update.proofs.attempt.apply.Given as goal

-- it sets out from what it is passed
abbrev pub ghosts-applied : goal.ghosts-applied
ghosts-applied g a = record { session = a.session; resolver = a.resolver }
