-- How many events of a seat there are at most.
use Rattle.std.proofs.Common.{◌≤◌, ◌+◌, ℕ, inl, inr, List, ◌∷◌, length, ap, arith}
use Rattle.tx_types.specs.declared.key.Key.{Key}
use Rattle.tx_core.specs.declared.event.Event.{Event}
use Rattle.tx_core.specs.declared.event.Event.TheVariants.{Drawn}
use Rattle.tx_core.specs.Histories.{History}
use Rattle.tx_core.specs.Recording.{owner, part}
use Rattle.tx_core.proofs.seats.Parts.{seat_test, part_own, part_other, part_extends}
use Rattle.tx_journal.specs.Known.{HasDrawn, HasRecorded}

-- an event is at most one of a seat's
pub part_upto : (i : ℕ) (e : Event) (h : History) → length (part i (e ∷ h)) ≤ length (part i h) + 1
part_upto i e h = elim (seat_test (owner h e) i) [
  | inl x ↦ omega (arith, ap length (part_own i h e x.1))
  | inr x ↦ omega (arith, ap length (part_other i h e x.1))
]

pub recorded_part : (bounds : List Key) (i : ℕ) (l : History) (e : Event) (new : History) → HasRecorded bounds i l e new
    → length (part i new) ≤ length (part i l) + 1
recorded_part bounds i l e new r =
    omega (
      arith,
      ap (λ h. length (part i h)) r.is,
      part_upto i e r.before,
      ap length (part_extends i l r.before r.extends),
    )

pub drawn_part : (bounds : List Key) (i : ℕ) (l : History) (ticks t : ℕ) (new : History)
    → HasDrawn bounds i l ticks t new → length (part i new) ≤ length (part i l) + 1
drawn_part bounds i l ticks t new d =
    omega (
      arith,
      ap (λ h. length (part i h)) d.is,
      part_upto i (Drawn i t) d.before,
      ap length (part_extends i l d.before d.extends),
    )
