use Rattle.std.proofs.Common.{refl, sym, subst}
use Rattle.tx_types.specs.declared.fault.Cause.TheVariants.{Long}
use Rattle.tx_script.specs.declared.line.Turned.TheVariants.{End, Stops}
use Rattle.tx_engine.proofs.SlotCounts.{rested}
use Rattle.tx_script.specs.Loops.{FoundTurned}
use Rattle.tx_script.proofs.line.play_found.Goals as goal

pub returns-in-End-clause-goes : goal.returns-in-End-clause-goes
returns-in-End-clause-goes g c =
    let e = c.args.engine.now in
    rested g.J.JournalId.bounds e e refl refl refl refl refl _
    (subst (λ f. FoundTurned g.J.JournalId.bounds c.args.number f c.args.line.now End e e) (sym c.in-End.is) refl)

pub returns-in-Long-clause-goes : goal.returns-in-Long-clause-goes
returns-in-Long-clause-goes g c =
    let e = c.args.engine.now in
    rested g.J.JournalId.bounds e e refl refl refl refl refl _
    (subst (λ f. FoundTurned g.J.JournalId.bounds c.args.number f c.args.line.now (Stops Long) e e)
    (sym c.in-Long.is) refl)
