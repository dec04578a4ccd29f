use Rattle.std.proofs.Common.{sym, subst}
use Rattle.tx_core.specs.Histories.{History, Begins}
use Rattle.tx_core.specs.Laws.{WasToldOf}
use Rattle.tx_resolve.proofs.Knowledge.{told_on}
use Rattle.tx_update.proofs.met_lock.resolve_met.Goals as goal

-- what the lock was told of, the seat has learnt
pub resolve-requires-clause-told : goal.resolve-requires-clause-told
resolve-requires-clause-told g c =
    let parts = c.into_parts-lock.ensures.parts in
    let h = c.learn.new.self.events in
    subst (WasToldOf h) (sym parts.0)
    (told_on c.args.met.events h (subst (λ (l : History). Begins l h) parts.1 c.learn.ensures.told) c.args.met.info
    c.into_parts-lock.ensures.told)
