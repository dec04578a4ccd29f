-- What a session's acts count, and what they are where nobody else acted.
use Rattle.tx_trace.specs.Traces.{Noted}
use Rattle.std.proofs.Common.{◌≡◌, ◌≤◌, ◌+◌, ℕ, ◌&&◌, Bool, List, [], ◌∷◌, false, true, length, Option, Some, None, Result, Ok, Err, refl, sym, ap, subst, ◌∙◌, arith}
use Rattle.std.specs.List.{sum_by}
use Rattle.std.specs.Prelude.{OnOk, OnErr, IfErr}
use Rattle.tx_types.specs.declared.key.Key.{Key}
use Rattle.tx_core.specs.declared.event.Declaration.{Declaration}
use Rattle.tx_core.specs.declared.event.Event.{Event}
use Rattle.tx_core.specs.declared.event.Event.TheVariants.{Began, Declared, Drawn}
use Rattle.tx_core.specs.Histories.{History, last}
use Rattle.tx_core.specs.Recording.{part}
use Rattle.tx_core.proofs.seats.Beginnings.{begins_all, begins_length, begins_whole}
use Rattle.tx_journal.specs.Known.{Known}
use Rattle.tx_transaction.specs.declared.state.Terms.{Terms}
use Rattle.tx_transaction.specs.Buffers.{Entries, not_empty}
use Rattle.tx_transaction.specs.Sessions.{declaration, declaration_of}
use Rattle.tx_client.specs.Calls.{HasHeard, BeganAt, Records, Draws, DeclaredWith, RecordsDeclared}
use Rattle.tx_client.specs.Walks.{Walk, Sends}
use Rattle.tx_network.specs.Networks.{NetworkParts, made_by, GoesOnWith, KeptAs, NotesDrawn, NotesDeclared, network_state, with_events, Passes, Runs}
use Rattle.tx_engine.specs.Slots.{Acts, NotesPlaced, at_regions}
use Rattle.tx_engine.specs.Semantics.{declared_in, placed_in}
use Rattle.tx_network.proofs.Alone.{recorded_grows, recorded_alone, drawn_grows, drawn_number, drawn_alone, begun_grows, begun_number, begun_alone}
use Rattle.tx_network.proofs.Counts.{recorded_part, drawn_part}
use Rattle.tx_network.proofs.Stages.{same_network}
use Rattle.tx_network.proofs.Traces.{kept_same, traced_same, traced_kept, traced_on, traced_twice}
use Rattle.tx_network.proofs.Walks.{walk_comes}

-- one and the same seat
made_same : (k l : Known) → l.seat ≡ k.seat → length (part k.seat l.events) ≤ length (part k.seat k.events)
    → made_by l ≤ made_by k
made_same k l number le = (let same : made_by l ≡ length (part k.seat l.events) = ap
    (λ i. length (part i l.events)) number in omega (arith, same, le))

-- nothing happens
pub still_acts : (k m : Known) (from to : NetworkParts) (Exact : Type 0) → m ≡ k → to.regions ≡ from.regions
    → to.newest ≡ from.newest → to.trace ≡ from.trace → Exact → Acts k m from to Exact
still_acts k m from to Exact same regions newest trace exact = record {
  made = 0;
  counts = omega (arith, ap made_by same, ap (sum_by made_by) regions);
  seat = ap (λ (x : Known). x.seat) same;
  ticks = omega (arith, ap (λ (x : Known). x.ticks) same);
  grows = omega (arith, ap length newest);
  exact = λ le. exact;
  traced = λ le. traced_same from to newest trace;
}

-- what is exact may be said otherwise
pub acts_so : (k m : Known) (from to : NetworkParts) (Exact Then : Type 0) → Acts k m from to Exact → (Exact → Then)
    → Acts k m from to Then
acts_so k m from to Exact Then acts on = record {
  made = acts.made;
  counts = acts.counts;
  seat = acts.seat;
  ticks = acts.ticks;
  grows = acts.grows;
  exact = λ le. on (acts.exact le);
  traced = acts.traced;
}

-- the seat k learnt what is newest and is then l
module _ (bounds : List Key) (from to : NetworkParts) (k l m : Known) (heard : HasHeard bounds k from.newest l)
    (regions : to.regions ≡ from.regions) (newest : to.newest ≡ m.events) (held : to.held ≡ from.held) where
  abbrev n : History
  n = from.newest

  regions_same : at_regions to ≡ at_regions from
  regions_same = ap (sum_by made_by) regions

  learnt : made_by l ≤ made_by k
  learnt = made_same k l heard.number (omega (arith, ap length heard.own))

  -- it makes no event
  pub heard_acts : m ≡ l → KeptAs from.trace to.trace → Acts k m from to (network_state to ≡ network_state from)
  heard_acts same kept = record {
    made = 0;
    counts = omega (arith, learnt, ap made_by same, regions_same);
    seat = ap (λ (x : Known). x.seat) same ∙ heard.number;
    ticks = (let also : m.ticks ≡ l.ticks = ap (λ (x : Known). x.ticks) same in omega (arith, also, heard.ticks));
    grows = (let events : length m.events ≡ length l.events = ap (λ (x : Known). length x.events) same
        in omega (arith, begins_length n l.events heard.knows, ap length newest, events));
    exact = λ le.
        (let events : m.events ≡ l.events = ap (λ (x : Known). x.events) same in
        same_network from to from.newest (newest ∙ (events ∙ sym (begins_whole n l.events heard.knows (omega (
          arith,
          le,
          ap length newest,
          ap length events,
        ))))) held);
    traced = λ le.
        (let events : m.events ≡ l.events = ap (λ (x : Known). x.events) same in
        traced_kept from to (newest ∙ (events ∙ sym (begins_whole n l.events heard.knows (omega (
          arith,
          le,
          ap length newest,
          ap length events,
        ))))) kept);
  }

  -- it records an event
  pub recorded_acts : (e : Event) → Records bounds l e m → GoesOnWith from.trace e to.trace
      → Acts k m from to (network_state to ≡ with_events (network_state from) (e ∷ from.newest))
  recorded_acts e r notes = record {
    made = 1;
    counts =
        (let one = recorded_part bounds l.seat l.events e m.events r.recorded in
        let here : made_by m ≡ length (part l.seat m.events) = ap (λ i. length (part i m.events)) r.number in
        omega (arith, learnt, one, here, regions_same));
    seat = r.number ∙ heard.number;
    ticks = (let a = r.ticks in let b = heard.ticks in omega (arith, a, b));
    grows = omega (arith, recorded_grows bounds l.seat n l.events heard.knows e m.events r.recorded, ap length newest);
    exact = λ le. same_network from to (e ∷ from.newest)
        (newest ∙ recorded_alone bounds l.seat n l.events heard.knows e m.events r.recorded (omega (
          arith,
          le,
          ap length newest,
        ))) held;
    traced = λ le. traced_on from to e (newest ∙ recorded_alone bounds l.seat n l.events heard.knows e m.events
        r.recorded (omega (arith, le, ap length newest))) notes;
  }

  -- it draws a number and declares, where something is declared
  placed_acts : (d : Declaration) → DeclaredWith bounds l d m → NotesPlaced (Some d) from.trace to.trace
      → Acts k m from to ((d.drawn ≡ last from.newest + 1)
      × (network_state to ≡ with_events (network_state from) (declared_in k.seat from.newest (Some d))))
  placed_acts d r notes =
      let mid_grows = drawn_grows bounds l.seat n l.events heard.knows 1 d.drawn r.mid r.drew in
      let all_grows = recorded_grows bounds l.seat r.mid r.mid (begins_all r.mid) (Declared d) m.events r.recorded in
      let alone : length to.newest ≤ length n + 2 → (d.drawn ≡ last n + 1)
      × (m.events ≡ Declared d ∷ Drawn l.seat d.drawn ∷ n) = λ le.
      (let few : length r.mid ≤ length n + 1 = omega (arith, le, ap length newest, all_grows) in
      let last : length m.events ≤ length r.mid + 1 = omega (arith, le, ap length newest, mid_grows) in (
        drawn_number bounds l.seat n l.events heard.knows 1 d.drawn r.mid r.drew few,
        recorded_alone bounds l.seat r.mid r.mid (begins_all r.mid) (Declared d) m.events r.recorded last ∙ ap
            (λ h. Declared d ∷ h) (drawn_alone bounds l.seat n l.events heard.knows 1 d.drawn r.mid r.drew few),
      )) in
      record {
        made = 2;
        counts =
            (let one = recorded_part bounds l.seat r.mid (Declared d) m.events r.recorded in
            let two = drawn_part bounds l.seat l.events 1 d.drawn r.mid r.drew in
            let here : made_by m ≡ length (part l.seat m.events) = ap (λ i. length (part i m.events)) r.number in
            omega (arith, learnt, one, two, here, regions_same));
        seat = r.number ∙ heard.number;
        ticks = (let a = r.ticks in let b = heard.ticks in omega (arith, a, b));
        grows = omega (arith, mid_grows, all_grows, ap length newest);
        exact = λ le. (let x = alone le in (
          x.0,
          same_network from to _ (newest ∙ (x.1 ∙ (λ i. Declared d
              ∷ Drawn (heard.number i) d.drawn ∷ n))) held,
        ));
        traced = λ le. traced_twice from to (Drawn l.seat d.drawn) (Declared d) notes.0 (newest ∙ (alone le).1)
            (notes.1 l.seat) notes.2;
      }

  pub declared_acts : (t p : ℕ) (es : Entries) (terms : Terms) → RecordsDeclared bounds l (declaration t p es terms) m
      → (not_empty es ≡ false → p ≡ 0) → NotesPlaced (declaration t p es terms) from.trace to.trace
      → Acts k m from to ((p ≡ placed_in from.newest es)
      × (network_state to ≡ with_events (network_state from)
      (declared_in k.seat from.newest (declaration t p es terms))))
  declared_acts t p [] terms same none notes = acts_so k m from to _ _ (heard_acts same notes) (λ x. (none refl, x))
  declared_acts t p (e ∷ es) terms r none notes = placed_acts (declaration_of t p (e ∷ es) terms) r notes

  -- it draws
  pub drew_acts : (t : ℕ) → Draws bounds l t m → NotesDrawn t from.trace to.trace
      → Acts k m from to ((t ≡ last from.newest + 1)
      × (network_state to ≡ with_events (network_state from) (Drawn k.seat (last from.newest + 1) ∷ from.newest)))
  drew_acts t d notes = record {
    made = 1;
    counts =
        (let one = drawn_part bounds l.seat l.events 1 t m.events d.drawn in
        let here : made_by m ≡ length (part l.seat m.events) = ap (λ i. length (part i m.events)) d.number in
        omega (arith, learnt, one, here, regions_same));
    seat = d.number ∙ heard.number;
    ticks = (let a = d.ticks in let b = heard.ticks in omega (arith, a, b));
    grows = omega (arith, drawn_grows bounds l.seat n l.events heard.knows 1 t m.events d.drawn, ap length newest);
    exact = λ le.
        (let few : length m.events ≤ length n + 1 = omega (arith, le, ap length newest) in
        let at : t ≡ last n + 1 = drawn_number bounds l.seat n l.events heard.knows 1 t m.events d.drawn few in (
          at,
          same_network from to _ (newest ∙ (drawn_alone bounds l.seat n l.events heard.knows 1 t m.events d.drawn
              few ∙ (λ i. Drawn (heard.number i) (at i) ∷ n))) held,
        ));
    traced = λ le. (let few : length m.events ≤ length n + 1 = omega (arith, le, ap length newest)
        in traced_on from to (Drawn l.seat t) (newest ∙ drawn_alone bounds l.seat n l.events heard.knows 1 t m.events
        d.drawn few) (notes l.seat));
  }

  -- it draws, and a session begins
  pub begun_acts : (t : ℕ) → BeganAt bounds l t m → (said : ℕ) → said ≡ t → (mid : Option Noted)
      → NotesDrawn t from.trace mid → GoesOnWith mid (Began t) to.trace
      → Acts k m from to ((said ≡ last from.newest + 1)
      × (network_state to ≡ with_events (network_state from) (Began (last from.newest + 1)
      ∷ Drawn k.seat (last from.newest + 1) ∷ from.newest)))
  begun_acts t b said is mid first second = record {
    made = 2;
    counts =
        (let one = recorded_part bounds l.seat b.mid (Began t) m.events b.began in
        let two = drawn_part bounds l.seat l.events 1 t b.mid b.drew in
        let here : made_by m ≡ length (part l.seat m.events) = ap (λ i. length (part i m.events)) b.number in
        omega (arith, learnt, one, two, here, regions_same));
    seat = b.number ∙ heard.number;
    ticks = (let a = b.ticks in let c = heard.ticks in omega (arith, a, c));
    grows = omega (
      arith,
      begun_grows bounds l.seat n l.events heard.knows t b.mid m.events b.drew b.began,
      ap length newest,
    );
    exact = λ le.
        (let few : length m.events ≤ length n + 2 = omega (arith, le, ap length newest) in
        let at : t ≡ last n + 1 = begun_number bounds l.seat n l.events heard.knows t b.mid m.events b.drew b.began few
        in (
          is ∙ at,
          same_network from to _ (newest ∙
              (begun_alone bounds l.seat n l.events heard.knows t b.mid m.events b.drew b.began few ∙ (λ i. Began (at i)
              ∷ Drawn (heard.number i) (at i) ∷ n))) held,
        ));
    traced = λ le. (let few : length m.events ≤ length n + 2 = omega (arith, le, ap length newest)
        in traced_twice from to (Drawn l.seat t) (Began t) mid
        (newest ∙ begun_alone bounds l.seat n l.events heard.knows t b.mid m.events b.drew b.began few)
        (first l.seat) second);
  }

-- a walk of requests, by the way that was set
pub sent_acts : {R : Type 0} (bounds : List Key) (w : Walk R) (k new : Known) (from at to : NetworkParts) (result : R)
    → at.regions ≡ from.regions → at.newest ≡ from.newest → at.trace ≡ from.trace
    → network_state at ≡ network_state from
    → Sends (λ (x : NetworkParts) q y z. Passes bounds x.delivery x q y z) bounds k at w result to new
    → Acts k new from to (Runs bounds at.delivery (network_state from) w result (network_state to))
sent_acts bounds w k new from at to result regions newest trace network sent =
    let comes = walk_comes bounds w k new at to result sent in
    record {
      made = comes.made;
      counts = omega (arith, comes.own, comes.counts, ap (sum_by made_by) regions);
      seat = comes.number;
      ticks = (let same = comes.ticks in omega (arith, same));
      grows = omega (arith, comes.grows, ap length newest);
      exact = λ le. subst (λ s. Runs bounds at.delivery s w result (network_state to)) network
          (comes.exact (omega (arith, le, ap length newest)));
      traced = λ le t. comes.traced (omega (arith, le, ap length newest)) (traced_same from at newest trace t);
    }

-- ---- what is noted of a declaration

pub not_empty_is : (a b : Bool) → a ≡ true → b ≡ (a && b)
not_empty_is true b e = refl
not_empty_is false b e = absurd (cc e)

pub placed_none : (t p : ℕ) (es : Entries) (terms : Terms) (o : Option Noted) → not_empty es ≡ false
    → NotesPlaced (declaration t p es terms) o o
placed_none t p [] terms o e = kept_same o o refl
placed_none t p (x ∷ es) terms o e = absurd (cc e)

pub placed_some : (t p : ℕ) (es : Entries) (terms : Terms) (old mid new : Option Noted) → not_empty es ≡ true
    → NotesDrawn p old mid → NotesDeclared (declaration t p es terms) mid new
    → NotesPlaced (declaration t p es terms) old new
placed_some t p [] terms old mid new e drew notes = absurd (cc e)
placed_some t p (x ∷ es) terms old mid new e drew notes = (mid, drew, notes)

-- ---- by what a call gave

pub map_ok : {T E : Type 0} (r : Result T E) (P Q : Type 0) → OnOk r P → (P → Q) → OnOk r Q
map_ok (Ok x) P Q p on = on p
map_ok (Err e) P Q p on = tt

pub map_err : {T E : Type 0} (r : Result T E) (A : Type 0) (P Q : E → Type 0) → OnErr r A → IfErr r P
    → (A → (e : E) → P e → Q e) → IfErr r Q
map_err (Ok x) A P Q a p on = tt
map_err (Err e) A P Q a p on = on a e p
