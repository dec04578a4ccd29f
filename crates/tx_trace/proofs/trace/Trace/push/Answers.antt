use Rattle.std.proofs.Common.{◌≡◌, ℕ, refl, sym, subst}
use Rattle.tx_core.specs.declared.event.Event.{Event}
use Rattle.tx_core.specs.declared.event.Event.TheVariants.{Drawn, Took}
use Rattle.tx_core.specs.declared.event.Taken.{Taken}
use Rattle.tx_trace.specs.Traces.{Adds}
use Rattle.tx_trace.proofs.Histories.{stopped_adds}
use Rattle.tx_trace.proofs.Requests.{on_ok}
use Rattle.tx_trace.proofs.trace.Trace.push.Goals as goal

pub returns-in-Drawn-clause-ok : goal.returns-in-Drawn-clause-ok
returns-in-Drawn-clause-ok c =
    on_ok c.drew.result ((seat : ℕ)
    → Adds c.args.self.now (Drawn seat c.in-Drawn.ts) c.drew.new.self)
    (Adds c.args.self.now c.args.event.now c.drew.new.self)
    (λ adds. subst (λ (e : Event). Adds c.args.self.now e c.drew.new.self) (sym c.in-Drawn.is) (adds c.in-Drawn.seat))
    c.drew.ensures.ok

pub returns-in-Stopped-clause-ok : goal.returns-in-Stopped-clause-ok
returns-in-Stopped-clause-ok c =
    subst (λ (e : Event). Adds c.args.self.now e c.args.self.now) (sym c.in-Stopped.is)
    (stopped_adds c.args.self.now c.in-Stopped.field-0)

pub returns-in-Took-clause-ok : goal.returns-in-Took-clause-ok
returns-in-Took-clause-ok c =
    on_ok c.took.result ((x : Taken) → x.body ≡ c.in-Took.taken.body → x.answer ≡ c.in-Took.taken.answer
    → Adds c.args.self.now (Took x) c.took.new.self) (Adds c.args.self.now c.args.event.now c.took.new.self)
    (λ adds. subst (λ (e : Event). Adds c.args.self.now e c.took.new.self) (sym c.in-Took.is)
    (adds c.in-Took.taken refl refl)) c.took.ensures.ok
