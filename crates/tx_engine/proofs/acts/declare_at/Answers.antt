use Rattle.std.proofs.Common.{◌≡◌, inl, inr, true, false, Option, Some, sym, ap, subst, ◌∙◌, arith}
use Rattle.std.specs.Prelude.{◌⊎◌}
use Rattle.tx_types.specs.declared.fault.Fault.TheVariants as fault
use Rattle.tx_core.specs.Histories.{History}
use Rattle.tx_client.specs.Calls.{Seated, HasHeard, RecordsDeclared}
use Rattle.tx_transaction.specs.Buffers.{not_empty}
use Rattle.tx_transaction.specs.Sessions.{SessionState, is_declared, declaration, exceeds}
use Rattle.tx_trace.specs.Traces.{Noted}
use Rattle.tx_network.specs.Networks.{NetworkParts, network_state, with_events}
use Rattle.tx_engine.specs.Slots.{Acts, NotesPlaced}
use Rattle.tx_engine.specs.Semantics.{declared_in, placed_in}
use Rattle.tx_engine.proofs.ActCounts.{declared_acts, heard_acts, acts_so}
use Rattle.tx_network.proofs.Traces.{kept_same}
use Rattle.tx_engine.proofs.acts.declare_at.Goals as goal

pub note_declared-requires : goal.note_declared-requires
note_declared-requires g c = ap is_declared (ap (λ (z : Seated). z.state) c.tell.ensures.same ∙ c.in-Ok.ensures.ok.1)

pub returns-in-Ok-clause-ok : goal.returns-in-Ok-clause-ok
returns-in-Ok-clause-ok g c =
    let bounds = g.J.JournalId.bounds in
    let from = c.args.network.now in
    let to = c.note_declared.new.network in
    let old = c.args.session.now in
    let l = c.learn_told.new.self.seat in
    let m = c.declare.new.self in
    let terms = c.args.terms in
    let p = m.state.placed in
    let heard : HasHeard bounds old.seat from.newest l =
    subst (λ (h : History). HasHeard bounds old.seat h l) c.newest.ensures.told c.learn_told.ensures.after_answer in
    let y : (exceeds old.state.buffer terms ≡ false)
    × (m.state ≡ record old.state { declared = Some terms; placed = p })
    × RecordsDeclared bounds l (declaration old.state.start p old.state.buffer terms) m.seat =
    subst (λ (s : SessionState). (exceeds s.buffer terms ≡ false)
    × (m.state ≡ record s { declared = Some terms; placed = p })
    × RecordsDeclared bounds l (declaration s.start p s.buffer terms) m.seat) c.learn_told.ensures.state
    c.in-Ok.ensures.ok in
    let none : not_empty old.state.buffer ≡ false → p ≡ 0 = subst (λ (s : SessionState). not_empty s.buffer ≡ false
    → p ≡ 0) c.learn_told.ensures.state c.in-Ok.ensures.none in
    let kept : c.set_newest.new.self.trace ≡ from.trace =
    ap (λ (x : NetworkParts). x.trace) c.set_newest.ensures ∙ ap (λ (x : NetworkParts).
    x.trace) c.newest.ensures.same in
    let notes : NotesPlaced (declaration old.state.start p old.state.buffer terms) from.trace to.trace =
    subst (λ (x : SessionState × Option Noted). NotesPlaced (declaration x.0.start x.0.placed x.0.buffer terms) x.1
    to.trace) (λ i. (
      (ap (λ (z : Seated). z.state) c.tell.ensures.same ∙ y.1) i,
      kept i,
    )) c.note_declared.ensures.notes in
    let acts = declared_acts bounds from to old.seat l m.seat heard
    (ap (λ (x : NetworkParts). x.regions) c.note_declared.ensures.same ∙ ap (λ (x : NetworkParts).
    x.regions) c.set_newest.ensures ∙ ap (λ (x : NetworkParts). x.regions) c.newest.ensures.same)
    (ap (λ (x : NetworkParts). x.newest) c.note_declared.ensures.same ∙ ap (λ (x : NetworkParts).
    x.newest) c.set_newest.ensures ∙ c.tell.ensures.told)
    (ap (λ (x : NetworkParts). x.held) c.note_declared.ensures.same ∙ ap (λ (x : NetworkParts).
    x.held) c.set_newest.ensures ∙ ap (λ (x : NetworkParts). x.held) c.newest.ensures.same) old.state.start p
    old.state.buffer terms y.2 none notes in
    let q = placed_in from.newest old.state.buffer in
    let Exactly : Seated → Type 0 = λ z. (z.state ≡ record old.state { declared = Some terms; placed = q })
    × (network_state to ≡ with_events (network_state from)
    (declared_in old.seat.seat from.newest (declaration old.state.start q old.state.buffer terms))) in
    subst (λ (z : Seated). (exceeds old.state.buffer terms ≡ false)
    × Acts old.seat z.seat from to (Exactly z)) (sym c.tell.ensures.same) (
      y.0,
      acts_so old.seat m.seat from to _ _ acts (λ x. (
        y.1 ∙ ap (λ n. record old.state { declared = Some terms; placed = n }) x.0,
        x.1 ∙ ap (λ n. with_events (network_state from)
            (declared_in old.seat.seat from.newest (declaration old.state.start n old.state.buffer terms))) x.0,
      )),
    )

pub returns-in-Err-clause-err : goal.returns-in-Err-clause-err
returns-in-Err-clause-err g c =
    let bounds = g.J.JournalId.bounds in
    let from = c.args.network.now in
    let to = c.set_newest-in-Err.new.self in
    let old = c.args.session.now in
    let l = c.learn_told.new.self.seat in
    let m = c.declare.new.self in
    let terms = c.args.terms in
    let e = c.in-Err.fault in
    let same = c.in-Err.ensures.same in
    let heard : HasHeard bounds old.seat from.newest l =
    subst (λ (h : History). HasHeard bounds old.seat h l) c.newest.ensures.told c.learn_told.ensures.after_answer in
    let many : (e ≡ fault.TooManyKeys) × (exceeds c.learn_told.new.self.state.buffer terms ≡ true) =
    elim c.in-Err.ensures.err [
      | inl y ↦ y
      | inr y ↦ (let few = y.1 in let ticks = heard.ticks
          in let some = c.requires.ticks in absurd (omega (arith, few, ticks, some)))
    ] in (
      many.0,
      subst (λ (s : SessionState). exceeds s.buffer terms ≡ true) c.learn_told.ensures.state many.1,
      ap (λ (z : Seated). z.state) (c.tell-in-Err.ensures.same ∙ same) ∙ c.learn_told.ensures.state,
      subst (λ (z : Seated). Acts old.seat z.seat from to (network_state to
          ≡ network_state from)) (sym c.tell-in-Err.ensures.same)
          (heard_acts bounds from to old.seat l m.seat heard
          (ap (λ (x : NetworkParts). x.regions) c.set_newest-in-Err.ensures ∙ ap (λ (x : NetworkParts).
          x.regions) c.newest.ensures.same)
          (ap (λ (x : NetworkParts). x.newest) c.set_newest-in-Err.ensures ∙ c.tell-in-Err.ensures.told)
          (ap (λ (x : NetworkParts). x.held) c.set_newest-in-Err.ensures ∙ ap (λ (x : NetworkParts).
          x.held) c.newest.ensures.same) (ap (λ (z : Seated). z.seat) same)
          (kept_same from.trace to.trace (ap (λ (x : NetworkParts). x.trace) c.set_newest-in-Err.ensures ∙ ap
          (λ (x : NetworkParts). x.trace) c.newest.ensures.same))),
    )
