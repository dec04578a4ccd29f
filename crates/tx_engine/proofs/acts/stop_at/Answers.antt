use Rattle.std.proofs.Common.{◌≡◌, ◌∷◌, sym, ap, subst, ◌∙◌}
use Rattle.tx_core.specs.declared.event.Event.TheVariants.{Stopped}
use Rattle.tx_core.specs.Histories.{History}
use Rattle.tx_journal.specs.Known.{Known}
use Rattle.tx_client.specs.Calls.{HasHeard}
use Rattle.tx_network.specs.Networks.{NetworkParts, network_state, with_events}
use Rattle.tx_engine.specs.Slots.{Acts}
use Rattle.tx_network.proofs.Traces.{stopped_on}
use Rattle.tx_engine.proofs.ActCounts.{recorded_acts}
use Rattle.tx_engine.proofs.acts.stop_at.Goals as goal

pub returns : goal.returns
returns g c =
    let from = c.args.network.now in
    let to = c.set_newest.new.self in
    let k = c.args.session.seat in
    let l = c.learn_told.new.self.seat in
    let m = c.stop-seat.result in
    let heard : HasHeard g.J.JournalId.bounds k from.newest l =
    subst (λ (h : History). HasHeard g.J.JournalId.bounds k h l) c.newest.ensures.told
    c.learn_told.ensures.after_answer in
    let acts = recorded_acts g.J.JournalId.bounds from to k l m heard
    (ap (λ (d : NetworkParts). d.regions) c.set_newest.ensures ∙ ap (λ (d : NetworkParts).
    d.regions) c.newest.ensures.same)
    (ap (λ (d : NetworkParts). d.newest) c.set_newest.ensures ∙ c.tell.ensures.told)
    (ap (λ (d : NetworkParts). d.held) c.set_newest.ensures ∙ ap (λ (d : NetworkParts).
    d.held) c.newest.ensures.same)
    (Stopped l.seat) c.stop-seat.ensures (stopped_on from to l.seat
    (ap (λ (d : NetworkParts). d.trace) c.set_newest.ensures ∙ ap (λ (d : NetworkParts).
    d.trace) c.newest.ensures.same)) in
    record {
      acts = subst (λ (x : Known). Acts k x from to (network_state to
          ≡ with_events (network_state from) (Stopped k.seat
          ∷ from.newest))) (sym c.tell.ensures.same) (subst (λ n. Acts k m from to (network_state to
          ≡ with_events (network_state from) (Stopped n ∷ from.newest))) heard.number acts);
    }
