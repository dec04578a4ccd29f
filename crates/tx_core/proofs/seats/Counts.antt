-- The parts of the seats make the whole history: each event is of one seat.
use Rattle.std.proofs.Common.{◌≡◌, ◌≢◌, ◌+◌, ◌<◌, ◌≤◌, ℕ, zero, suc, inl, inr, List, [], ◌∷◌, length, Some, refl, sym, ap, ◌∙◌, arith}
use Rattle.std.proofs.lemmas.Bool.{cases_lt}
use Rattle.tx_types.specs.declared.key.Key.{Key}
use Rattle.tx_core.specs.declared.event.Event.{Event}
use Rattle.tx_core.specs.Histories.{History}
use Rattle.tx_core.specs.Worlds.{IsWorldRun}
use Rattle.tx_core.specs.Recording.{owner, part, events_of, AllOfSeats}
use Rattle.tx_core.proofs.Basics.{some_of, some_same}
use Rattle.tx_core.proofs.seats.Parts.{seat_test, part_own, part_other}
use Rattle.tx_core.proofs.seats.Stays.{owner_some}

-- no seat has an event of no history
events_none : (n : ℕ) → events_of n [] ≡ 0
events_none zero = refl
events_none (suc n) = omega (arith, events_none n)

-- an event of no seat below n does not count
events_above : (n i : ℕ) (h : History) (e : Event) → owner h e ≡ Some i → n ≤ i → events_of n (e ∷ h) ≡ events_of n h
events_above zero i h e own le = refl
events_above (suc n) i h e own le =
    let other : owner h e ≢ Some n =
    λ is. (let same : i ≡ n = some_same i n (sym own ∙ is) in omega (arith, same, le)) in
    let below : n ≤ i = omega (arith, le) in
    omega (arith, events_above n i h e own below, ap length (part_other n h e other))

-- an event of a seat below n counts once
events_below : (n i : ℕ) (h : History) (e : Event) → owner h e ≡ Some i → i < n
    → events_of n (e ∷ h) ≡ events_of n h + 1
events_below zero i h e own lt = absurd (omega (arith, lt))
events_below (suc n) i h e own lt =
    elim (seat_test (owner h e) n) [
      | inl is ↦
          (let same : i ≡ n = some_same i n (sym own ∙ is.1) in
          let upto : n ≤ i = omega (arith, same) in
          omega (arith, events_above n i h e own upto, ap length (part_own n h e is.1)))
      | inr other ↦
          (let differ : i ≢ n = λ same. other.1 (own ∙ ap Some same) in
          let below : i < n = omega (arith, lt, differ) in
          omega (arith, events_below n i h e own below, ap length (part_other n h e other.1)))
    ]

-- where each event is of a seat below n, there are as many as these seats have
pub parts_count : (n : ℕ) (h : History) → AllOfSeats n h → length h ≡ events_of n h
parts_count n [] all = omega (arith, events_none n)
parts_count n (e ∷ h) all = omega (arith, parts_count n h all.0, events_below n all.1.0 h e all.1.1 all.1.2)

-- in a world run each event is some seat's, so it is of a seat below n where no other
-- seat has an event
pub all_of_seats : (bounds : List Key) (n : ℕ) (h : History) → IsWorldRun bounds h → ((i : ℕ) → n ≤ i → part i h ≡ [])
    → AllOfSeats n h
all_of_seats bounds n [] run none = tt
all_of_seats bounds n (e ∷ h) run none =
    let own = some_of (owner h e) (owner_some bounds h run.0 e run.1) in
    (all_of_seats bounds n h run.0 before, (own.0, own.1, below own.0 own.1))
  where
    before : (i : ℕ) → n ≤ i → part i h ≡ []
    before i le = elim (seat_test (owner h e) i) [
      | inl is ↦ absurd (cc (part_own i h e is.1, none i le))
      | inr other ↦ sym (part_other i h e other.1) ∙ none i le
    ]

    below : (i : ℕ) → owner h e ≡ Some i → i < n
    below i own = elim (cases_lt i n) [ inl lt ↦ lt | inr le ↦ absurd (cc (part_own i h e own, none i le)) ]

-- and the other way round
pub no_other_part : (n i : ℕ) (h : History) → AllOfSeats n h → n ≤ i → part i h ≡ []
no_other_part n i [] all le = refl
no_other_part n i (e ∷ h) all le =
    let other : owner h e ≢ Some i =
    λ is. (let same : all.1.0 ≡ i = some_same all.1.0 i (sym all.1.1 ∙ is) in omega (arith, same, le, all.1.2)) in
    part_other i h e other ∙ no_other_part n i h all.0 le
