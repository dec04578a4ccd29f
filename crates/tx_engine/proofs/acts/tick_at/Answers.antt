use Rattle.std.proofs.Common.{Option, ◌≡◌, ◌+◌, ◌∷◌, sym, ap, subst, ◌∙◌}
use Rattle.tx_core.specs.declared.event.Event.TheVariants.{Drawn}
use Rattle.tx_core.specs.Histories.{last, Begins}
use Rattle.tx_journal.specs.Known.{Known}
use Rattle.tx_network.specs.Networks.{NetworkParts, GoesOnWith, network_state, with_events}
use Rattle.tx_engine.specs.Slots.{Serves}
use Rattle.tx_trace.specs.Traces.{Noted}
use Rattle.tx_engine.proofs.SystemSeat.{tick_serves}
use Rattle.tx_engine.proofs.acts.tick_at.Goals as goal

pub returns-clause-drawn : goal.returns-clause-drawn
returns-clause-drawn g c =
    let from = c.args.network.now in
    let to = c.drew.new.self in
    let k = c.args.system_seat.now in
    let l = c.learn.new.self in
    let m = c.draw.new.self in
    let n = c.args.ticks in
    let t = c.in-Ok.last in
    let drew = c.in-Ok.ensures in
    let knows : Begins from.newest l.events = subst (λ h. Begins h l.events) c.newest.ensures.told c.learn.ensures.told
    in
    let serves : Serves k m from to ((t ≡ last from.newest + n)
    × (network_state to ≡ with_events (network_state from) (Drawn k.seat (last from.newest + n) ∷ from.newest))) =
    tick_serves g.J.JournalId.bounds from to k l c.learn.ensures.same.0 knows c.learn.ensures.own n t m drew.drawn
    drew.seat
    (ap (λ (d : NetworkParts). d.regions) c.drew.ensures.same ∙ ap (λ (d : NetworkParts).
    d.regions) c.set_newest.ensures ∙ ap (λ (d : NetworkParts). d.regions) c.newest.ensures.same)
    (ap (λ (d : NetworkParts). d.newest) c.drew.ensures.same ∙ ap (λ (d : NetworkParts).
    d.newest) c.set_newest.ensures ∙ c.tell.ensures.told)
    (ap (λ (d : NetworkParts). d.held) c.drew.ensures.same ∙ ap (λ (d : NetworkParts). d.held) c.set_newest.ensures ∙ ap
    (λ (d : NetworkParts). d.held) c.newest.ensures.same)
    (λ seat. subst (λ (o : Option Noted). GoesOnWith o (Drawn seat t) to.trace)
    (ap (λ (d : NetworkParts). d.trace) c.set_newest.ensures ∙ ap (λ (d : NetworkParts).
    d.trace) c.newest.ensures.same) (c.drew.ensures.notes seat)) in
    subst (λ (x : Known). (k.ticks ≡ x.ticks + n) × Serves k x from to ((t ≡ last from.newest + n)
    × (network_state to ≡ with_events (network_state from) (Drawn k.seat (last from.newest + n)
    ∷ from.newest)))) (sym c.tell.ensures.same) (sym c.learn.ensures.same.1 ∙ drew.ticks, serves)
