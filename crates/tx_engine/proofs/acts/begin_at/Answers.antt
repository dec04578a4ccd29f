use Rattle.std.proofs.Common.{◌≡◌, ◌+◌, ℕ, ◌∷◌, Option, sym, ap, subst, ◌∙◌}
use Rattle.tx_core.specs.declared.event.Event.TheVariants.{Began, Drawn}
use Rattle.tx_core.specs.Histories.{last, Begins}
use Rattle.tx_client.specs.Calls.{Seated, HasHeard}
use Rattle.tx_trace.specs.Traces.{Noted}
use Rattle.tx_network.specs.Networks.{NetworkParts, GoesOnWith, NotesDrawn, network_state, with_events}
use Rattle.tx_engine.specs.Slots.{Acts}
use Rattle.tx_engine.proofs.ActCounts.{begun_acts}
use Rattle.tx_engine.proofs.acts.begin_at.Goals as goal

pub returns-clause-acts : goal.returns-clause-acts
returns-clause-acts g c =
    let from = c.args.network.now in
    let to = c.began.new.self in
    let k = c.args.seat in
    let l = c.learn.new.self in
    let s = c.in-Ok.session in
    let began = c.in-Ok.ensures.ok in
    let same : c.tell.new.self ≡ s = c.tell.ensures.same in
    let heard : HasHeard g.J.JournalId.bounds k from.newest l = record {
      number = c.learn.ensures.same.0;
      ticks = c.learn.ensures.same.1;
      seen = c.learn.ensures.seen;
      knows = subst (λ h. Begins h l.events) c.newest.ensures.told c.learn.ensures.told;
      own = c.learn.ensures.own;
    } in
    let kept : c.set_newest.new.self.trace ≡ from.trace =
    ap (λ (d : NetworkParts). d.trace) c.set_newest.ensures ∙ ap (λ (d : NetworkParts).
    d.trace) c.newest.ensures.same in
    let first : NotesDrawn s.state.start from.trace c.drew.new.self.trace =
    λ seat. subst (λ (x : ℕ × Option Noted). GoesOnWith x.1 (Drawn seat x.0) c.drew.new.self.trace)
    (λ i. (c.start-start.ensures i, kept i)) (c.drew.ensures.notes seat) in
    let second : GoesOnWith c.drew.new.self.trace (Began s.state.start) to.trace =
    subst (λ (x : ℕ). GoesOnWith c.drew.new.self.trace (Began x) to.trace) c.start-start.ensures
    c.began.ensures.notes in
    let acts = begun_acts g.J.JournalId.bounds from to k l s.seat heard
    (ap (λ (d : NetworkParts). d.regions) c.began.ensures.same ∙ ap (λ (d : NetworkParts).
    d.regions) c.drew.ensures.same ∙ ap (λ (d : NetworkParts). d.regions) c.set_newest.ensures ∙ ap
    (λ (d : NetworkParts). d.regions) c.newest.ensures.same)
    (ap (λ (d : NetworkParts). d.newest) c.began.ensures.same ∙ ap (λ (d : NetworkParts).
    d.newest) c.drew.ensures.same ∙ ap (λ (d : NetworkParts). d.newest) c.set_newest.ensures ∙ c.tell.ensures.told)
    (ap (λ (d : NetworkParts). d.held) c.began.ensures.same ∙ ap (λ (d : NetworkParts).
    d.held) c.drew.ensures.same ∙ ap (λ (d : NetworkParts). d.held) c.set_newest.ensures ∙ ap (λ (d : NetworkParts).
    d.held) c.newest.ensures.same)
    s.state.start began.1 c.start-start.result c.start-start.ensures c.drew.new.self.trace first second in
    subst (λ (x : Seated). Acts k x.seat from to ((c.start-start.result ≡ last from.newest + 1)
    × (network_state to ≡ with_events (network_state from) (Began (last from.newest + 1)
    ∷ Drawn k.seat (last from.newest + 1) ∷ from.newest)))) (sym same) acts
