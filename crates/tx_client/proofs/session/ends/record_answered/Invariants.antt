use Rattle.tx_core.specs.declared.event.Event.TheVariants.{Answered}
use Rattle.tx_client.proofs.session.ends.record_answered.Given as goal

-- the outcome is answered
abbrev pub ghosts-record_outcome : goal.ghosts-record_outcome
ghosts-record_outcome g a = record { event = Answered a.start a.outcome.now }
