-- At the end each seat has learnt what is newest: so the history is no longer than what the
-- seats have made.
use Rattle.std.proofs.Common.{◌≡◌, ◌≤◌, ◌+◌, ℕ, suc, List, [], ◌∷◌, length, Option, Some, None, Contains, refl, ap, subst, arith}
use Rattle.std.specs.List.{sum_by}
use Rattle.std.proofs.lemmas.List.Sums.{sum_by-cons}
use Rattle.std.proofs.lemmas.List.Elements.{Contains-append_right}
use Rattle.tx_types.specs.declared.key.Key.{Key}
use Rattle.tx_core.specs.Histories.{History}
use Rattle.tx_core.specs.Recording.{part, events_of, AllOfSeats}
use Rattle.tx_core.proofs.seats.Counts.{parts_count}
use Rattle.tx_journal.specs.Known.{Known}
use Rattle.tx_network.specs.Networks.{made_by, IsDone, AreNumbered}
use Rattle.tx_engine.specs.Slots.{SlotContent, seat_in, Held, made_in, own, IsSeat, AreSeated, AllSeated, Done, Settled}

-- ---- counting

abbrev AllHold : {X : Type 0} → (X → Type 0) → List X → Type 0
AllHold P [] = Unit {0}
AllHold P (p ∷ ps) = P p × AllHold P ps

all_hold : {X : Type 0} (P : X → Type 0) (xs : List X) → ((x : X) → Contains xs x → P x) → AllHold P xs
all_hold P [] each = tt
all_hold P (x ∷ xs) each = (
  each x (0, omega arith, refl),
  all_hold P xs (λ q among. each q (Contains-append_right (x ∷ []) xs q among)),
)

made_upto : (n : History) (i m : ℕ) (o : Option Known) → IsSeat i m o → Done n o → length (part i n) ≤ made_in o
made_upto n i m None seat done = absurd seat
made_upto n i m (Some k) seat done = subst (λ j. length (part j n) ≤ made_by k) seat.0 done

places_upto : (n : History) (i : ℕ) (slots : List SlotContent) → AreSeated i 0 slots
    → AllHold (λ p. Done n (seat_in p)) slots
    → events_of (i + length slots) n ≤ events_of i n + sum_by (λ p. made_in (seat_in p)) slots
places_upto n i [] seated done = omega (arith, ap (λ j. events_of j n) (let e : i + 0 ≡ i = omega arith in e))
places_upto n i (p ∷ slots) seated done =
    let rest : events_of (suc i + length slots) n ≤ events_of (suc i) n + sum_by (λ q. made_in (seat_in q)) slots =
    places_upto n (suc i) slots seated.1 done.1 in
    omega (
      arith,
      rest,
      made_upto n i 0 (seat_in p) seated.0 done.0,
      sum_by-cons (λ q. made_in (seat_in q)) p slots,
      ap (λ j. events_of j n) (let e : i + suc (length slots) ≡ suc i + length slots = omega arith in e),
    )

regions_upto : (n : History) (i : ℕ) (ks : List Known) → AreNumbered i ks → AllHold (IsDone n) ks
    → events_of (i + length ks) n ≤ events_of i n + sum_by made_by ks
regions_upto n i [] numbers done = omega (arith, ap (λ j. events_of j n) (let e : i + 0 ≡ i = omega arith in e))
regions_upto n i (k ∷ ks) numbers done =
    let rest : events_of (suc i + length ks) n ≤ events_of (suc i) n + sum_by made_by ks =
    regions_upto n (suc i) ks numbers.1 done.1 in
    let here : length (part i n) ≤ made_by k = subst (λ j. length (part j n) ≤ made_by k) numbers.0 done.0 in
    omega (
      arith,
      rest,
      here,
      sum_by-cons made_by k ks,
      ap (λ j. events_of j n) (let e : i + suc (length ks) ≡ suc i + length ks = omega arith in e),
    )

pub history_upto : (bounds : List Key) (e : Held) → AllSeated bounds 0 e → Settled bounds e
    → AllOfSeats (length bounds + 2 + length e.slots) e.network.newest → length e.network.newest ≤ own e
history_upto bounds e seated settled all =
    let n = e.network.newest in
    let count = parts_count (length bounds + 2 + length e.slots) n all in
    let upto_regions : events_of (0 + length e.network.regions) n ≤ events_of 0 n + sum_by made_by e.network.regions =
    regions_upto n 0 e.network.regions settled.numbers (all_hold (IsDone n) e.network.regions settled.regions) in
    let first : events_of (0 + length e.network.regions) n ≡ events_of (length e.network.regions) n =
    ap (λ j. events_of j n) (let z : 0 + length e.network.regions ≡ length e.network.regions = omega arith in z) in
    let number : events_of (length e.network.regions) n ≡ events_of (length bounds + 1) n =
    ap (λ j. events_of j n) settled.many in
    let system_seat : length (part (length bounds + 1) n) ≤ made_by e.system_seat =
    subst (λ j. length (part j n) ≤ made_by e.system_seat) seated.system_seat settled.system_seat in
    let next_one : events_of (length bounds + 2) n ≡ events_of (length bounds + 1) n
    + length (part (length bounds + 1) n) = ap (λ j. events_of j n)
    (let e : length bounds + 2 ≡ suc (length bounds + 1) = omega arith in e) in
    let upto_places : events_of (length bounds + 2 + length e.slots) n ≤ events_of (length bounds + 2) n
    + sum_by (λ p. made_in (seat_in p)) e.slots =
    places_upto n (length bounds + 2) e.slots seated.slots
    (all_hold (λ p. Done n (seat_in p)) e.slots settled.slots) in
    omega (arith, count, upto_regions, first, number, system_seat, next_one, upto_places)
