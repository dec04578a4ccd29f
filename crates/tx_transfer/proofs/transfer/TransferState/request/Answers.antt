use Rattle.std.proofs.Common.{inl, inr, subst}
use Rattle.tx_transfer.specs.TransferSteps.{DoesNext, Moving, Resolves}
use Rattle.tx_transfer.proofs.transfer.TransferState.request.Goals as goal

pub returns-then-takes_lock : goal.returns-then-takes_lock
returns-then-takes_lock g c =
    inl (subst (λ (m : Moving). Resolves g.J.JournalId.bounds m c.resolve.result c.resolve.new.self)
    c.takes_lock.ensures c.resolve.ensures)

pub returns-else-takes_lock : goal.returns-else-takes_lock
returns-else-takes_lock g c =
    inr (subst (λ (m : Moving). DoesNext g.J.JournalId.bounds m.next m c.go_on.result c.go_on.new.self)
    c.takes_lock.ensures c.go_on.ensures)
