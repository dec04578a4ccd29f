use Rattle.std.proofs.Common.{◌≡◌, ℕ, false, ◌∷◌, Option, Some, None, refl, sym, ap, subst, ◌∙◌}
use Rattle.tx_core.specs.declared.event.Event.TheVariants.{Answered}
use Rattle.std.specs.Prelude.{is_some}
use Rattle.tx_core.specs.declared.event.Outcome.{Outcome}
use Rattle.tx_core.specs.Histories.{History}
use Rattle.tx_journal.specs.Known.{Known}
use Rattle.tx_client.specs.Calls.{Seated, HasHeard, Records}
use Rattle.tx_transaction.specs.Sessions.{SessionState, finish_of}
use Rattle.tx_trace.specs.Traces.{Noted}
use Rattle.tx_network.specs.Networks.{NetworkParts, GoesOnWith, NetworkState, network_state, with_events}
use Rattle.tx_engine.specs.Slots.{Acts}
use Rattle.tx_engine.proofs.ActCounts.{recorded_acts, heard_acts}
use Rattle.tx_network.proofs.Traces.{kept_same}
use Rattle.tx_engine.proofs.acts.finish_in.Goals as goal

none_of : (o : Option Outcome) → is_some o ≡ false → o ≡ None
none_of None is = refl
none_of (Some x) is = absurd (cc (is))

pub returns-clause-ended : goal.returns-clause-ended
returns-clause-ended g c =
    let bounds = g.J.JournalId.bounds in
    let from = c.args.network.now in
    let to = c.answered.new.self in
    let old = c.in-Live.session in
    let l = c.learn_told.new.self.seat in
    let m = c.in-Ok.seat in
    let o = c.in-Ok.outcome in
    let moved : c.in-Live-replace.session ≡ c.learn_told.new.self = cc (c.in-Live-replace.ensures.value) in
    let ended = c.in-Ok.ensures.ended in
    let heard : HasHeard bounds old.seat from.newest l =
    subst (λ (h : History). HasHeard bounds old.seat h l) c.newest.ensures.told c.learn_told.ensures.after_answer in
    let recorded : Records bounds l (Answered old.state.start o) m =
    subst (λ (s : SessionState). Records bounds l (Answered s.start o) m) c.learn_told.ensures.state
    (subst (λ (x : Seated). Records bounds x.seat (Answered x.state.start o) m) moved ended.1) in
    let kept : c.set_newest-2.new.self.trace ≡ from.trace =
    ap (λ (d : NetworkParts). d.trace) c.set_newest-2.ensures ∙ ap (λ (d : NetworkParts).
    d.trace) c.newest.ensures.same in
    let start : c.start-start.result ≡ old.state.start =
    c.start-start.ensures ∙ ap (λ (x : Seated). x.state.start) moved ∙ ap (λ (s : SessionState).
    s.start) c.learn_told.ensures.state in
    let notes : GoesOnWith from.trace (Answered old.state.start o) to.trace =
    subst (λ (x : ℕ × Option Noted). GoesOnWith x.1 (Answered x.0 o) to.trace) (λ i. (
      start i,
      kept i,
    )) c.answered.ensures.notes in
    let acts = recorded_acts bounds from to old.seat l m heard
    (ap (λ (d : NetworkParts). d.regions) c.answered.ensures.same ∙ ap (λ (d : NetworkParts).
    d.regions) c.set_newest-2.ensures ∙ ap (λ (d : NetworkParts). d.regions) c.newest.ensures.same)
    (ap (λ (d : NetworkParts). d.newest) c.answered.ensures.same ∙ ap (λ (d : NetworkParts).
    d.newest) c.set_newest-2.ensures ∙ c.tell-2.ensures.told)
    (ap (λ (d : NetworkParts). d.held) c.answered.ensures.same ∙ ap (λ (d : NetworkParts).
    d.held) c.set_newest-2.ensures ∙ ap (λ (d : NetworkParts). d.held) c.newest.ensures.same)
    (Answered old.state.start o) recorded notes in (
      old,
      c.tell-2.new.self,
      c.in-Live.is,
      refl,
      subst (λ (s : SessionState). finish_of s ≡ Some o) c.learn_told.ensures.state
          (subst (λ (x : Seated). finish_of x.state ≡ Some o) moved ended.0),
      subst (λ (x : Known). Acts old.seat x from to (network_state to
          ≡ with_events (network_state from) (Answered old.state.start o
          ∷ from.newest))) (sym c.tell-2.ensures.same) acts,
    )

pub returns-then-is_none-clause-open_yet : goal.returns-then-is_none-clause-open_yet
returns-then-is_none-clause-open_yet g c =
    let bounds = g.J.JournalId.bounds in
    let from = c.args.network.now in
    let to = c.set_newest.new.self in
    let old = c.in-Live.session in
    let l = c.learn_told.new.self.seat in
    let m = c.learn_told.new.self in
    let heard : HasHeard bounds old.seat from.newest l =
    subst (λ (h : History). HasHeard bounds old.seat h l) c.newest.ensures.told c.learn_told.ensures.after_answer in
    let acts = heard_acts bounds from to old.seat l m.seat heard
    (ap (λ (d : NetworkParts). d.regions) c.set_newest.ensures ∙ ap (λ (d : NetworkParts).
    d.regions) c.newest.ensures.same)
    (ap (λ (d : NetworkParts). d.newest) c.set_newest.ensures ∙ c.tell.ensures.told)
    (ap (λ (d : NetworkParts). d.held) c.set_newest.ensures ∙ ap (λ (d : NetworkParts).
    d.held) c.newest.ensures.same)
    refl (kept_same from.trace to.trace
    (ap (λ (d : NetworkParts). d.trace) c.set_newest.ensures ∙ ap (λ (d : NetworkParts).
    d.trace) c.newest.ensures.same)) in (
      old,
      c.tell.new.self,
      c.in-Live.is,
      refl,
      subst (λ (s : SessionState). finish_of s ≡ None) (c.transaction.ensures ∙ c.learn_told.ensures.state)
          (sym c.outcome.ensures ∙ none_of c.outcome.result c.if-is_none.ensures),
      ap (λ (x : Seated). x.state) c.tell.ensures.same ∙ c.learn_told.ensures.state,
      subst (λ (x : Seated). Acts old.seat x.seat from to (network_state to
          ≡ network_state from)) (sym c.tell.ensures.same) acts,
    )
