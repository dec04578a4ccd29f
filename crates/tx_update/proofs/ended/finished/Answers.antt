use Rattle.std.proofs.Common.{refl}
use Rattle.tx_update.proofs.CommitOrder.{ended_so}
use Rattle.tx_update.proofs.ended.finished.Goals as goal

-- what `finish` answered is what ended
pub returns-in-Ok-clause-ended : goal.returns-in-Ok-clause-ended
returns-in-Ok-clause-ended g c =
    λ begun writes.
    let both = ended_so g.J.JournalId.bounds begun c.args.session c.in-Ok.outcome c.start-start.result c.in-Ok.begins
    c.show.ensures.run c.show.ensures.stands writes c.start-start.ensures c.in-Ok.ensures.ended
    c.in-Ok.ensures.in_order in
    (both.0, both.1, refl, refl, refl)
