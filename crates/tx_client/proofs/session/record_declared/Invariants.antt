use Rattle.tx_core.specs.declared.event.Event.TheVariants.{Declared}
use Rattle.tx_transaction.specs.Sessions.{declaration_of}
use Rattle.tx_client.proofs.session.record_declared.Given as goal

-- the transaction declares its buffer
abbrev pub ghosts-record_declaration : goal.ghosts-record_declaration
ghosts-record_declaration g a =
    record { event = Declared (declaration_of a.transaction.now.start a.placed a.transaction.now.buffer a.terms.now) }
