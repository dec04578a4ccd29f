-- What is counted over all slots, where one of them acts.
use Rattle.std.proofs.Common.{◌≡◌, ◌≤◌, ◌+◌, ℕ, zero, suc, List, [], ◌∷◌, length, slice_get, slice_set, slice_index_or, Option, Some, None, refl, sym, ap, subst, ◌∙◌, arith}
use Rattle.std.specs.List.{sum_by}
use Rattle.std.proofs.lemmas.List.{length-set}
use Rattle.std.proofs.lemmas.List.Sums.{sum_by-set}
use Rattle.std.proofs.lemmas.Option.{slice_get_within, get_or_from_slice_get}
use Rattle.tx_types.specs.declared.key.Key.{Key}
use Rattle.tx_core.proofs.Basics.{some_same}
use Rattle.tx_journal.specs.Known.{Known}
use Rattle.tx_network.specs.Networks.{made_by}
use Rattle.tx_network.proofs.Traces.{traced_same}
use Rattle.tx_engine.specs.Slots.{SlotContent, seat_in, Held, made_in, IsSeat, AreSeated, AllSeated, Acts, Serves, Finds, Goes}

abbrev pub known_ticks : Known → ℕ
known_ticks k = k.ticks

-- what is put where it is changes nothing
pub set_here : {X : Type 0} (xs : List X) (k : ℕ) (x : X) → slice_get xs k ≡ Some x → slice_set xs k x ≡ xs
set_here [] k x is = refl
set_here (y ∷ ys) zero x is = ap (λ z. z ∷ ys) (sym (some_same y x is))
set_here (y ∷ ys) (suc k) x is = ap (λ zs. y ∷ zs) (set_here ys k x is)

-- ---- seats

fewer : (i n m : ℕ) (o : Option Known) → m ≤ n → IsSeat i n o → IsSeat i m o
fewer i n m None le h = h
fewer i n m (Some k) le h = (h.0, omega (arith, le, h.1))

pub seated_fewer : (i n m : ℕ) (slots : List SlotContent) → m ≤ n → AreSeated i n slots → AreSeated i m slots
seated_fewer i n m [] le h = tt
seated_fewer i n m (p ∷ slots) le h = (fewer i n m (seat_in p) le h.0, seated_fewer (suc i) n m slots le h.1)

pub all_fewer : (bounds : List Key) (n m : ℕ) (e : Held) → m ≤ n → AllSeated bounds n e → AllSeated bounds m e
all_fewer bounds n m e le h = record {
  system_seat = h.system_seat;
  slots = seated_fewer (length bounds + 2) n m e.slots le h.slots;
}

-- the seat of a slot
pub seated_at : (i n k j : ℕ) (slots : List SlotContent) (x : SlotContent) → j ≡ i + k → slice_get slots k ≡ Some x
    → AreSeated i n slots → IsSeat j n (seat_in x)
seated_at i n k j [] x is there h = absurd (cc (there))
seated_at i n zero j (p ∷ slots) x is there h = subst (λ m. IsSeat m n (seat_in x)) (sym (is ∙ omega arith))
    (subst (λ y. IsSeat i n (seat_in y)) (some_same p x there) h.0)
seated_at i n (suc k) j (p ∷ slots) x is there h = seated_at (suc i) n k j slots x (omega (arith, is)) there h.1

seated_set : (i n k : ℕ) (slots : List SlotContent) (x y : SlotContent) → slice_get slots k ≡ Some x
    → ((j : ℕ) → IsSeat j (suc n) (seat_in x) → IsSeat j n (seat_in y)) → AreSeated i (suc n) slots
    → AreSeated i n (slice_set slots k y)
seated_set i n k [] x y there change h = tt
seated_set i n zero (p ∷ slots) x y there change h = (
  change i (subst (λ z. IsSeat i (suc n) (seat_in z)) (some_same p x there) h.0),
  seated_fewer (suc i) (suc n) n slots (omega arith) h.1,
)
seated_set i n (suc k) (p ∷ slots) x y there change h = (
  fewer i (suc n) n (seat_in p) (omega arith) h.0,
  seated_set (suc i) n k slots x y there change h.1,
)

seat_changed : (a b : Known) → b.seat ≡ a.seat → a.ticks ≤ b.ticks + 1 → (o q : Option Known) → o ≡ Some a → q ≡ Some b
    → (n j : ℕ) → IsSeat j (suc n) o → IsSeat j n q
seat_changed a b seat ticks o q was now n j h =
    let had : IsSeat j (suc n) (Some a) = subst (IsSeat j (suc n)) was h in
    subst (IsSeat j n) (sym now) (seat ∙ had.0, omega (arith, ticks, had.1))

-- the slot of a seat
pub at_place_of : (bounds : List Key) (n k : ℕ) (e : Held) (x : SlotContent) (a : Known) → slice_get e.slots k ≡ Some x
    → seat_in x ≡ Some a → AllSeated bounds n e → (a.seat ≡ length bounds + 2 + k) × (n ≤ a.ticks)
at_place_of bounds n k e x a there is all = subst (IsSeat (length bounds + 2 + k) n) is (seated_at (length bounds
    + 2) n k (length bounds + 2 + k) e.slots x refl there all.slots)

-- ---- one slot acts

module _ (old new : Held) (k : ℕ) (x y : SlotContent) (there : slice_get old.slots k ≡ Some x) (placed : new.slots
    ≡ slice_set old.slots k y) (a b : Known) (was : seat_in x ≡ Some a) (now : seat_in y ≡ Some b) where
  places_count : sum_by (λ p. made_in (seat_in p)) new.slots + made_by a ≡ sum_by (λ p. made_in (seat_in p)) old.slots
      + made_by b
  places_count =
      let sums = sum_by-set (λ p. made_in (seat_in p)) old.slots k y x (slice_get_within old.slots k x there) in
      let here : made_in (seat_in (slice_index_or old.slots k x)) ≡ made_by a =
      ap (λ p. made_in (seat_in p)) (get_or_from_slice_get old.slots k x x there) ∙ ap made_in was in
      omega (arith, sums, here, ap made_in now, ap (sum_by (λ p. made_in (seat_in p))) placed)

module _ (old new : Held) (k : ℕ) (x y : SlotContent) (there : slice_get old.slots k ≡ Some x) (placed : new.slots
    ≡ slice_set old.slots k y) (system_seat : new.system_seat ≡ old.system_seat)
    (a b : Known) (was : seat_in x ≡ Some a) (now : seat_in y ≡ Some b) where
  pub acted : (bounds : List Key) (Exact Then : Type 0) → Acts a b old.network new.network Exact → (Exact → Then)
      → Goes bounds old new Then
  acted bounds Exact Then acts on = record {
    made = acts.made;
    counts = omega (arith, places_count old new k x y there placed a b was now, acts.counts, ap made_by system_seat);
    size = ap length placed ∙ length-set old.slots k y;
    seated = λ n h. record {
      system_seat = ap (λ (c : Known). c.seat) system_seat ∙ h.system_seat;
      slots = subst (AreSeated (length bounds + 2) n) (sym placed) (seated_set (length bounds
          + 2) n k old.slots x y there (seat_changed a b acts.seat acts.ticks (seat_in x) (seat_in y) was now n)
          h.slots);
    };
    grows = acts.grows;
    exact = λ le. on (acts.exact le);
    traced = acts.traced;
  }

-- the seat for what no session does sends, and the session of a slot learns what was found
pub found : (bounds : List Key) (old new : Held) (k : ℕ) (x y : SlotContent) → slice_get old.slots k ≡ Some x
    → new.slots ≡ slice_set old.slots k y → (a b : Known) → seat_in x ≡ Some a → seat_in y ≡ Some b
    → (Exact Then : Type 0) → Finds a b old.system_seat new.system_seat old.network new.network Exact → (Exact → Then)
    → Goes bounds old new Then
found bounds old new k x y there placed a b was now Exact Then finds on = record {
  made = finds.made;
  counts = omega (arith, places_count old new k x y there placed a b was now, finds.counts);
  size = ap length placed ∙ length-set old.slots k y;
  seated = λ n h. record {
    system_seat = finds.system_seat ∙ h.system_seat;
    slots = subst (AreSeated (length bounds + 2) n) (sym placed) (seated_set (length bounds
        + 2) n k old.slots x y there (seat_changed a b finds.seat (let same = finds.ticks
        in omega (arith, same)) (seat_in x) (seat_in y) was now n) h.slots);
  };
  grows = finds.grows;
  exact = λ le. on (finds.exact le);
  traced = finds.traced;
}

-- the seat for what no session does acts
pub served : (bounds : List Key) (old new : Held) (Exact Then : Type 0) → new.slots ≡ old.slots
    → Serves old.system_seat new.system_seat old.network new.network Exact → (Exact → Then) → Goes bounds old new Then
served bounds old new Exact Then slots serves on = record {
  made = serves.made;
  counts = omega (arith, serves.counts, ap (sum_by (λ p. made_in (seat_in p))) slots);
  size = ap length slots;
  seated = λ n h. record {
    system_seat = serves.seat ∙ h.system_seat;
    slots = subst (AreSeated (length bounds + 2) n) (sym slots) (seated_fewer (length bounds
        + 2) (suc n) n old.slots (omega arith) h.slots);
  };
  grows = serves.grows;
  exact = λ le. on (serves.exact le);
  traced = serves.traced;
}

-- nothing is counted, and nothing changes
pub rested : (bounds : List Key) (old new : Held) → new.network.regions ≡ old.network.regions
    → new.network.newest ≡ old.network.newest → new.network.trace ≡ old.network.trace
    → new.system_seat ≡ old.system_seat → new.slots ≡ old.slots → (Exact : Type 0) → Exact → Goes bounds old new Exact
rested bounds old new regions newest trace system_seat slots Exact exact = record {
  made = 0;
  counts = omega (
    arith,
    ap (sum_by made_by) regions,
    ap made_by system_seat,
    ap (sum_by (λ p. made_in (seat_in p))) slots,
  );
  size = ap length slots;
  seated = λ n h. record {
    system_seat = ap (λ (c : Known). c.seat) system_seat ∙ h.system_seat;
    slots = subst (AreSeated (length bounds + 2) n) (sym slots) (seated_fewer (length bounds
        + 2) (suc n) n old.slots (omega arith) h.slots);
  };
  grows = omega (arith, ap length newest);
  exact = λ le. exact;
  traced = λ le. traced_same old.network new.network newest trace;
}
