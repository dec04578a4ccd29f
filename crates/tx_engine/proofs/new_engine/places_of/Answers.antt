use Rattle.std.proofs.Common.{◌≡◌, ◌<◌, [], ◌∷◌, ◌++◌, length, vec_len, sym, ap, ◌∙◌, append_assoc, append-nil, arith}
use Rattle.std.proofs.lemmas.Bool.{eqb-true, eqb-false}
use Rattle.tx_engine.specs.declared.slots.SessionSlot.TheVariants.{Free}
use Rattle.tx_engine.specs.Openings.{frees}
use Rattle.tx_engine.proofs.Dealt.{removed, no_items}
use Rattle.tx_engine.proofs.new_engine.places_of.Goals as goal

pub seats-preserved : goal.seats-preserved
seats-preserved g c =
    let seats = c.seats.seats.items in
    let seat = c.remove-seat.result in
    let rest = c.remove-seat.new.self.items in
    let some : 0 < length seats = omega (
      arith,
      eqb-false (vec_len c.seats.seats) 0 (sym c.seats-test.ensures),
      c.seats.seats.ok.0,
    ) in
    let is : seats ≡ seat ∷ rest = removed seats rest seat some c.remove-seat.ensures.value c.remove-seat.ensures.items
    in
    ap (λ l. l ++ frees rest) c.in_ok-push.ensures.items ∙ (append_assoc c.seats.slots.items (Free seat
    ∷ []) (frees rest) ∙ (ap (λ l. c.seats.slots.items ++ frees l) (sym is) ∙ c.seats.invariant))

pub returns : goal.returns
returns g c =
    let none : c.seats.seats.items ≡ [] = no_items c.seats.seats.items (omega (
      arith,
      eqb-true (vec_len c.seats.seats) 0 (sym c.seats-test.ensures),
      c.seats.seats.ok.0,
    )) in
    sym (append-nil c.seats.slots.items) ∙ (ap (λ l. c.seats.slots.items ++ frees l) (sym none) ∙ c.seats.invariant)
