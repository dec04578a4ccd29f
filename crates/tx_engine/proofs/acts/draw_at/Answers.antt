use Rattle.std.proofs.Common.{Option, ◌≡◌, ◌+◌, ◌∷◌, sym, ap, subst, ◌∙◌}
use Rattle.tx_core.specs.declared.event.Event.TheVariants.{Drawn}
use Rattle.tx_core.specs.Histories.{History, last}
use Rattle.tx_client.specs.Calls.{Seated, HasHeard}
use Rattle.tx_network.specs.Networks.{NetworkParts, GoesOnWith, network_state, with_events}
use Rattle.tx_engine.specs.Slots.{Acts}
use Rattle.tx_trace.specs.Traces.{Noted}
use Rattle.tx_engine.proofs.ActCounts.{drew_acts}
use Rattle.tx_engine.proofs.acts.draw_at.Goals as goal

pub returns-clause-acts : goal.returns-clause-acts
returns-clause-acts g c =
    let from = c.args.network.now in
    let to = c.drew.new.self in
    let k = c.args.session.now.seat in
    let l = c.learn_told.new.self.seat in
    let m = c.draw_commit.new.self.seat in
    let t = c.in-Ok.commit in
    let heard : HasHeard g.J.JournalId.bounds k from.newest l =
    subst (λ (h : History). HasHeard g.J.JournalId.bounds k h l) c.newest.ensures.told
    c.learn_told.ensures.after_answer in
    let acts = drew_acts g.J.JournalId.bounds from to k l m heard
    (ap (λ (d : NetworkParts). d.regions) c.drew.ensures.same ∙ ap (λ (d : NetworkParts).
    d.regions) c.set_newest.ensures ∙ ap (λ (d : NetworkParts). d.regions) c.newest.ensures.same)
    (ap (λ (d : NetworkParts). d.newest) c.drew.ensures.same ∙ ap (λ (d : NetworkParts).
    d.newest) c.set_newest.ensures ∙ c.tell.ensures.told)
    (ap (λ (d : NetworkParts). d.held) c.drew.ensures.same ∙ ap (λ (d : NetworkParts).
    d.held) c.set_newest.ensures ∙ ap (λ (d : NetworkParts). d.held) c.newest.ensures.same)
    t c.in-Ok.ensures.ok.1 (λ seat. subst (λ (o : Option Noted). GoesOnWith o (Drawn seat t) to.trace)
    (ap (λ (d : NetworkParts). d.trace) c.set_newest.ensures ∙ ap (λ (d : NetworkParts).
    d.trace) c.newest.ensures.same) (c.drew.ensures.notes seat)) in
    subst (λ (x : Seated). Acts k x.seat from to ((t ≡ last from.newest + 1)
    × (network_state to ≡ with_events (network_state from) (Drawn k.seat (last from.newest + 1)
    ∷ from.newest)))) (sym c.tell.ensures.same) acts
