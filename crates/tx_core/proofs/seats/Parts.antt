-- The events of one seat in a history.
use Rattle.std.proofs.Common.{◌≡◌, ◌≢◌, ◌≤◌, ◌⊎◌, ℕ, inl, inr, true, false, [], ◌∷◌, length, Option, Some, None, refl, sym, ap, subst, ◌∙◌, arith}
use Rattle.tx_core.specs.declared.event.Event.{Event}
use Rattle.tx_core.specs.Histories.{History, Begins}
use Rattle.tx_core.specs.Recording.{owner, Extends, is_seat, part}
use Rattle.tx_core.proofs.Basics.{nat_test, some_same}
use Rattle.tx_core.proofs.seats.Beginnings.{begins_all}

-- a test of an owner, with what it means
pub seat_test : (o : Option ℕ) (i : ℕ) → ((is_seat o i ≡ true) × (o ≡ Some i)) ⊎ ((is_seat o i ≡ false) × (o ≢ Some i))
seat_test None i = inr (refl, λ e. cc (e))
seat_test (Some s) i =
    elim (nat_test s i) [ inl x ↦ inl (x.0, ap Some x.1) | inr x ↦ inr (x.0, λ e. x.1 (some_same s i e)) ]

-- its own event, and another seat's
pub part_own : (i : ℕ) (h : History) (e : Event) → owner h e ≡ Some i → part i (e ∷ h) ≡ e ∷ part i h
part_own i h e own = elim (seat_test (owner h e) i) [ inl x ↦ rw x.0 refl | inr x ↦ absurd (x.1 own) ]

pub part_other : (i : ℕ) (h : History) (e : Event) → owner h e ≢ Some i → part i (e ∷ h) ≡ part i h
part_other i h e other = elim (seat_test (owner h e) i) [ inl x ↦ absurd (other x.1) | inr x ↦ rw x.0 refl ]

-- the part of a beginning begins the part
pub part_begins : (i : ℕ) (l h : History) → Begins l h → Begins (part i l) (part i h)
part_begins i l [] b = ap (part i) b
part_begins i l (e ∷ h) b =
    elim b [
      | inl same ↦ subst (λ x. Begins (part i l) (part i x)) same (begins_all (part i l))
      | inr more ↦
          elim (seat_test (owner h e) i) [
            | inl own ↦ subst (λ x. Begins (part i l) x) (sym (part_own i h e own.1)) (inr (part_begins i l h more))
            | inr other ↦ subst (λ x. Begins (part i l) x) (sym (part_other i h e other.1)) (part_begins i l h more)
          ]
    ]

pub part_shorter : (i : ℕ) (l h : History) → Begins l h → length (part i l) ≤ length (part i h)
part_shorter i l [] b = (let same = ap (λ x. length (part i x)) b in omega (arith, same))
part_shorter i l (e ∷ h) b =
    elim b [
      | inl same ↦ (let equal = ap (λ x. length (part i x)) same in omega (arith, equal))
      | inr more ↦
          elim (seat_test (owner h e) i) [
            | inl own ↦ omega (arith, ap length (part_own i h e own.1), part_shorter i l h more)
            | inr other ↦ omega (arith, ap length (part_other i h e other.1), part_shorter i l h more)
          ]
    ]

-- what extends a history with no event of a seat has the same events of it
pub part_extends : (i : ℕ) (l h : History) → Extends i l h → part i h ≡ part i l
part_extends i l [] g = ap (part i) (sym g)
part_extends i l (e ∷ h) g =
    elim g [ inl same ↦ ap (part i) (sym same) | inr more ↦ part_other i h e more.1 ∙ part_extends i l h more.0 ]

-- and what begins with l and has no more events of a seat than l extends l without one
pub extends_by_part : (i : ℕ) (l h : History) → Begins l h → length (part i h) ≤ length (part i l) → Extends i l h
extends_by_part i l [] b le = b
extends_by_part i l (e ∷ h) b le =
    elim b [
      | inl same ↦ inl same
      | inr more ↦
          elim (seat_test (owner h e) i) [
            | inl own ↦ absurd (omega (arith, le, ap length (part_own i h e own.1), part_shorter i l h more))
            | inr other ↦ (let fewer : length (part i h) ≤ length (part i l) =
                omega (arith, le, ap length (part_other i h e other.1)) in
                inr (extends_by_part i l h more fewer, other.1))
          ]
    ]

-- so a history extends a beginning exactly where its part is the same
pub extends_same_part : (i : ℕ) (l h : History) → Begins l h → part i h ≡ part i l → Extends i l h
extends_same_part i l h b same = extends_by_part i l h b (let equal = ap length same in omega (arith, equal))

-- a history with no event of a seat extends any beginning
pub extends_absent : (i : ℕ) (l h : History) → Begins l h → part i h ≡ [] → Extends i l h
extends_absent i l h b none = extends_by_part i l h b (let equal = ap length none in omega (arith, equal))

-- of two beginnings that one history extends with no event of a seat, the longer
-- extends the shorter so
pub extends_shorter : (i : ℕ) (a b h : History) → Extends i a h → Begins b h → Begins a b → Extends i a b
extends_shorter i a b h g q p =
    extends_by_part i a b p (let same = ap length (part_extends i a h g) in omega (arith, same, part_shorter i b h q))
