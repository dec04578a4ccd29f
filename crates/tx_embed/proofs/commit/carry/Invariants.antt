use Rattle.tx_embed.proofs.commit.carry.Given as goal

-- it sets out from what it is passed
abbrev pub ghosts-carried : goal.ghosts-carried
ghosts-carried g a = record { session = a.session; resolver = a.resolver }
