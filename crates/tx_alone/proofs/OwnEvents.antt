-- What a seat then knows that recorded or drew, where nobody else acted.
use Rattle.std.proofs.Common.{◌≡◌, ◌≢◌, ◌≤◌, ◌+◌, ℕ, List, ◌∷◌, length, Some, ap, ◌∙◌, arith}
use Rattle.tx_types.specs.declared.key.Key.{Key}
use Rattle.tx_core.specs.declared.event.Declaration.{Declaration}
use Rattle.tx_core.specs.declared.event.Event.{Event}
use Rattle.tx_core.specs.declared.event.Event.TheVariants.{Began, Declared, Drawn}
use Rattle.tx_core.specs.Histories.{last}
use Rattle.tx_core.specs.Recording.{owner, part}
use Rattle.tx_core.proofs.seats.Beginnings.{begins_all}
use Rattle.tx_core.proofs.seats.Parts.{part_own, part_other}
use Rattle.tx_journal.specs.Known.{Known}
use Rattle.tx_client.specs.Calls.{BeganAt, DeclaredWith, Draws, Records}
use Rattle.tx_network.specs.Networks.{made_by}
use Rattle.tx_network.proofs.Alone.{recorded_grows, recorded_alone, drawn_grows, drawn_number, drawn_alone, begun_number, begun_alone}
use Rattle.tx_network.proofs.Counts.{recorded_part, drawn_part}
use Rattle.tx_alone.specs.Ways.{IsAlone}

module _ (bounds : List Key) (old new : Known) (alone : IsAlone old 0 new) where
  pub recorded_here : (e : Event) → Records bounds old e new → new.events ≡ e ∷ old.events
  recorded_here e r =
      let one = recorded_part bounds old.seat old.events e new.events r.recorded in
      let here : made_by new ≡ length (part old.seat new.events) = ap (λ i. length (part i new.events)) r.number in
      recorded_alone bounds old.seat old.events old.events (begins_all old.events) e new.events r.recorded
      (omega (arith, alone, one, here))

  pub drew_here : (c : ℕ) → Draws bounds old c new
      → (c ≡ last old.events + 1) × (new.events ≡ Drawn old.seat c ∷ old.events)
  drew_here c d =
      let one = drawn_part bounds old.seat old.events 1 c new.events d.drawn in
      let here : made_by new ≡ length (part old.seat new.events) = ap (λ i. length (part i new.events)) d.number in
      let few : length new.events ≤ length old.events + 1 = omega (arith, alone, one, here) in (
        drawn_number bounds old.seat old.events old.events (begins_all old.events) 1 c new.events d.drawn few,
        drawn_alone bounds old.seat old.events old.events (begins_all old.events) 1 c new.events d.drawn few,
      )

  pub declared_here : (d : Declaration) → DeclaredWith bounds old d new
      → (d.drawn ≡ last old.events + 1) × (new.events ≡ Declared d ∷ Drawn old.seat d.drawn ∷ old.events)
  declared_here d r =
      let n = old.events in
      let two = drawn_part bounds old.seat n 1 d.drawn r.mid r.drew in
      let one = recorded_part bounds old.seat r.mid (Declared d) new.events r.recorded in
      let here : made_by new ≡ length (part old.seat new.events) = ap (λ i. length (part i new.events)) r.number in
      let mid_grows = drawn_grows bounds old.seat n n (begins_all n) 1 d.drawn r.mid r.drew in
      let all_grows = recorded_grows bounds old.seat r.mid r.mid (begins_all r.mid) (Declared d) new.events r.recorded
      in
      let few : length r.mid ≤ length n + 1 = omega (arith, alone, one, two, here, all_grows) in
      let end : length new.events ≤ length r.mid + 1 = omega (arith, alone, one, two, here, mid_grows) in (
        drawn_number bounds old.seat n n (begins_all n) 1 d.drawn r.mid r.drew few,
        recorded_alone bounds old.seat r.mid r.mid (begins_all r.mid) (Declared d) new.events r.recorded end ∙ ap
            (λ h. Declared d ∷ h) (drawn_alone bounds old.seat n n (begins_all n) 1 d.drawn r.mid r.drew few),
      )

  pub began_here : (t : ℕ) → BeganAt bounds old t new
      → (t ≡ last old.events + 1) × (new.events ≡ Began t ∷ Drawn old.seat t ∷ old.events)
  began_here t b =
      let n = old.events in
      let two = drawn_part bounds old.seat n 1 t b.mid b.drew in
      let one = recorded_part bounds old.seat b.mid (Began t) new.events b.began in
      let here : made_by new ≡ length (part old.seat new.events) = ap (λ i. length (part i new.events)) b.number in
      let few : length new.events ≤ length n + 2 = omega (arith, alone, one, two, here) in (
        begun_number bounds old.seat n n (begins_all n) t b.mid new.events b.drew b.began few,
        begun_alone bounds old.seat n n (begins_all n) t b.mid new.events b.drew b.began few,
      )

-- ---- that nobody else acted is so where just these events come

-- one that the seat made
pub alone_by_own : (old new : Known) (e : Event) → new.seat ≡ old.seat → owner old.events e ≡ Some old.seat
    → new.events ≡ e ∷ old.events → IsAlone old 0 new
alone_by_own old new e number own is =
    let more : made_by new ≡ length (part old.seat (e ∷ old.events)) =
    (λ j. length (part (number j) (is j))) in
    let one : length (part old.seat (e ∷ old.events)) ≡ made_by old + 1 =
    ap length (part_own old.seat old.events e own) ∙ omega arith in
    omega (arith, ap length is, more, one)

-- one by which a region answered
pub alone_by_answer : (old new : Known) (e : Event) → new.seat ≡ old.seat → owner old.events e ≢ Some old.seat
    → new.events ≡ e ∷ old.events → IsAlone old 1 new
alone_by_answer old new e number other is =
    let more : made_by new ≡ length (part old.seat (e ∷ old.events)) =
    (λ j. length (part (number j) (is j))) in
    let none : length (part old.seat (e ∷ old.events)) ≡ made_by old =
    ap length (part_other old.seat old.events e other) in
    omega (arith, ap length is, more, none)
