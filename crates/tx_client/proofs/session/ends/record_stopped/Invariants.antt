use Rattle.tx_core.specs.declared.event.Event.TheVariants.{Stopped}
use Rattle.tx_client.proofs.session.ends.record_stopped.Given as goal

-- the session stopped
abbrev pub ghosts-record_end : goal.ghosts-record_end
ghosts-record_end g a = record { event = Stopped a.seat.now.seat }
