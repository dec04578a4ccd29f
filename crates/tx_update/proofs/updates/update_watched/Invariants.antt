use Rattle.tx_update.proofs.Retries.{InVain}
use Rattle.tx_update.proofs.updates.update_watched.Given as goal

-- each try so far came to nothing, and they are as many as were made again
abbrev pub invariant-loop-tries : goal.invariant-loop-tries
invariant-loop-tries g l =
    InVain g.W.Work.does g.J.JournalId.bounds l.fn.terms l.tries l.fn.seats l.fn.work l.seats l.work
