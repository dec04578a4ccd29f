use Rattle.tx_core.specs.declared.event.Event.TheVariants.{Began}
use Rattle.tx_client.proofs.session.record_began.Given as goal

-- the transaction began
abbrev pub ghosts-record_start : goal.ghosts-record_start
ghosts-record_start g a = record { event = Began a.start }
