-- An engine over the seats of a new journal.
use Rattle.std.proofs.Common.{◌≡◌, ◌<◌, ◌≤◌, ◌+◌, ℕ, suc, List, [], ◌∷◌, ◌++◌, map, length, replicate, slice_get, slice_index_or, drop, Some, refl, sym, ap, subst, ◌∙◌, arith, length-append}
use Rattle.std.specs.Prelude.{All}
use Rattle.std.proofs.Math.ListN.{get_or-append}
use Rattle.std.proofs.Math.Seq.{get_or-append_seam}
use Rattle.std.specs.List.{sum_by}
use Rattle.std.proofs.lemmas.List.Sums.{sum_by-cons}
use Rattle.tx_types.specs.declared.key.Key.{Key}
use Rattle.tx_core.proofs.Basics.{some_same}
use Rattle.tx_journal.specs.Known.{Known, known}
use Rattle.tx_engine.specs.declared.slots.SessionSlot.TheVariants.{Free}
use Rattle.tx_network.specs.Networks.{AreNumbered, made_by, body_at}
use Rattle.tx_engine.specs.Semantics.{free}
use Rattle.tx_engine.specs.Slots.{Held, seat_in, slot_of, name_at, made_in, AreSeated, AllSeated}
use Rattle.tx_engine.specs.Openings.{frees, AreDealt, IsOpening}
use Rattle.tx_engine.proofs.SlotCounts.{seated_fewer}

dealt : (i : ℕ) (seats : List Known) → ((k : ℕ) → k < length seats
    → slice_get seats k ≡ Some (known (i + k) 4294967296 [])) → AreDealt i seats
dealt i [] each = tt
dealt i (s ∷ seats) each = (
  some_same s (known i 4294967296 []) (each 0 (omega arith) ∙ ap (λ j. Some (known j 4294967296 [])) (let e : i + 0
      ≡ i = omega arith in e)),
  dealt (suc i) seats (λ k lt. each (suc k) (omega (
    arith,
    lt,
  )) ∙ ap (λ j. Some (known j 4294967296 [])) (let e : i + suc k ≡ suc i + k = omega arith in e)),
)

-- the seats of a new journal
pub dealt_all : (seats : List Known) (n : ℕ) → length seats ≡ n
    → ((k : ℕ) → k < n → slice_get seats k ≡ Some (known k 4294967296 [])) → AreDealt 0 seats
dealt_all seats n size each = dealt 0 seats (λ k lt. each k (omega (
  arith,
  lt,
  size,
)) ∙ ap (λ j. Some (known j 4294967296 [])) (let e : k ≡ 0 + k = omega arith in e))

-- one more seat at the end
pub dealt_push : (i : ℕ) (seats : List Known) (k : Known) → k ≡ known (i + length seats) 4294967296 []
    → AreDealt i seats → AreDealt i (seats ++ k ∷ [])
dealt_push i [] k is d = (is ∙ ap (λ j. known j 4294967296 []) (let e : i + 0 ≡ i = omega arith in e), tt)
dealt_push i (s ∷ seats) k is d = (
  d.0,
  dealt_push (suc i) seats k (is ∙ ap (λ j. known j 4294967296 []) (let e : i
      + suc (length seats) ≡ suc i + length seats = omega arith in e)) d.1,
)

pub numbered : (i : ℕ) (seats : List Known) → AreDealt i seats → AreNumbered i seats
numbered i [] d = tt
numbered i (s ∷ seats) d = (ap (λ (k : Known). k.seat) d.0, numbered (suc i) seats d.1)

pub length_frees : (seats : List Known) → length (frees seats) ≡ length seats
length_frees [] = refl
length_frees (s ∷ seats) = ap suc (length_frees seats)

seated_dealt : (i : ℕ) (seats : List Known) → AreDealt i seats → AreSeated i 4294967296 (frees seats)
seated_dealt i [] d = tt
seated_dealt i (s ∷ seats) d = (
  (ap (λ (k : Known). k.seat) d.0, omega (arith, ap (λ (k : Known). k.ticks) d.0)),
  seated_dealt (suc i) seats d.1,
)

none_made : (i : ℕ) (seats : List Known) → AreDealt i seats → sum_by (λ p. made_in (seat_in p)) (frees seats) ≡ 0
none_made i [] d = refl
none_made i (s ∷ seats) d = (let one : made_by s ≡ 0 = ap made_by d.0
    in omega (arith, sum_by-cons (λ p. made_in (seat_in p)) (Free s) (frees seats), one, none_made (suc i) seats d.1))

none_taken : (i : ℕ) (seats : List Known) → AreDealt i seats → sum_by made_by seats ≡ 0
none_taken i [] d = refl
none_taken i (s ∷ seats) d = (let one : made_by s ≡ 0 = ap made_by d.0
    in omega (arith, sum_by-cons made_by s seats, one, none_taken (suc i) seats d.1))

all_free : (seats : List Known) → map slot_of (frees seats) ≡ replicate (length seats) free
all_free [] = refl
all_free (s ∷ seats) = ap (λ l. free ∷ l) (all_free seats)

-- an engine over the regions' seats, the clerk's and those of the slots
module _ (bounds : List Key) (e : Held) (regions : List Known) (system_seat : Known) (seats : List Known)
    (taken : AreDealt 0 regions) (all : AreDealt (length bounds + 1) (system_seat ∷ seats))
    (at_regions : e.network.regions ≡ regions) (newest : e.network.newest ≡ []) (held : e.network.held
    ≡ []) (at_system_seat : e.system_seat ≡ system_seat) (names : e.names ≡ []) (slots : e.slots
    ≡ frees seats) where
  pub ready : (n : ℕ) → n ≤ 4294967296 → AllSeated bounds n e
  ready n few = record {
    system_seat = ap (λ (k : Known). k.seat) (at_system_seat ∙ all.0);
    slots = subst (AreSeated (length bounds + 2) n) (sym slots) (seated_fewer (length bounds
        + 2) 4294967296 n (frees seats) few
        (subst (λ i. AreSeated i 4294967296 (frees seats)) (let same : suc (length bounds + 1)
        ≡ length bounds + 2 = omega arith in same) (seated_dealt (suc (length bounds + 1)) seats all.1)));
  }

  pub sized : length e.slots ≡ length seats
  sized = ap length slots ∙ length_frees seats

  pub opens : IsOpening e
  opens = record {
    engine = (let ticks : e.system_seat.ticks ≡ 4294967296 = ap (λ (k : Known). k.ticks) (at_system_seat ∙ all.0)
        in let count : map slot_of e.slots ≡ replicate (length e.slots) free =
        ap (map slot_of) slots ∙ (all_free seats ∙ ap (λ n. replicate n free) (sym sized)) in
        λ i. record {
          network = record { history = newest i; held = λ q. body_at (held i) q; kept = length (held i) };
          ticks = ticks i;
          names = λ q. name_at (names i) q;
          slots = count i;
        });
    none = (let made : made_by e.system_seat ≡ 0 = ap made_by (at_system_seat ∙ all.0) in
        omega (
          arith,
          made,
          ap (sum_by made_by) at_regions,
          none_taken 0 regions taken,
          ap (sum_by (λ p. made_in (seat_in p))) slots,
          none_made (suc (length bounds + 1)) seats all.1,
        ));
  }

-- the first of a list was taken
pub removed : {X : Type 0} (xs ys : List X) (x : X) → 0 < length xs → x ≡ slice_index_or xs 0 x → ys ≡ drop 1 xs
    → xs ≡ x ∷ ys
removed [] ys x some is rest = absurd (omega (arith, some))
removed (z ∷ zs) ys x some is rest = λ i. sym is i ∷ sym rest i

pub no_items : {X : Type 0} (xs : List X) → length xs ≡ 0 → xs ≡ []
no_items [] e = refl
no_items (x ∷ xs) e = absurd (omega (arith, e))

-- what holds of each holds of the last, and of each before it
pub last_of : {X : Type 0} (P : X → Type 0) (xs front : List X) (x : X) → xs ≡ front ++ x ∷ [] → All P xs → P x
last_of P xs front x is all =
    subst P (get_or-append_seam front x [] x) (subst (All P) is all (length front) x (omega (
      arith,
      length-append front (x ∷ []),
    )))

pub front_of : {X : Type 0} (P : X → Type 0) (xs front : List X) (x : X) → xs ≡ front ++ x ∷ [] → All P xs → All P front
front_of P xs front x is all = λ k d h. subst P (get_or-append front (x
    ∷ []) d k h) (subst (All P) is all k d (omega (arith, h, length-append front (x ∷ []))))
