use Rattle.tx_transfer.proofs.TransferSteps.{resolves_inside, resolves_or}
use Rattle.tx_transfer.proofs.transfer.TransferState.resolve.Goals as goal

pub returns : goal.returns
returns g c =
    let bounds = g.J.JournalId.bounds in
    let n = c.resolve-came.new.session in
    resolves_inside bounds _ c.args.self.now n c.resolved.result c.resolve-came.result c.self.view_is c.resolved.ensures
    (resolves_or bounds c.resolve-came.result c.self.inside.session n _ _ c.resolve-came.ensures.ok
    c.resolve-came.ensures.same)
