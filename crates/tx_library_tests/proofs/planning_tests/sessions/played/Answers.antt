use Rattle.std.proofs.Common.{◌≡◌, List, [], ◌∷◌, ap, ◌∙◌, arith}
use Rattle.std.specs.Prelude.{slice_get, slice_index_or, Some}
use Rattle.tx_library_tests.proofs.planning_tests.sessions.played.Goals as goal

-- the first of a list
first_is : {X : Type 0} (xs : List X) (d x : X) → slice_get xs 0 ≡ Some x → slice_index_or xs 0 d ≡ x
first_is [] d x e = absurd (cc (e))
first_is (y ∷ ys) d x e = cc (e)

-- the first seat is that of the first region
pub new-requires-2-clause-seat : goal.new-requires-2-clause-seat
new-requires-2-clause-seat g c =
    let first = c.in-Ok.ensures.seats 0 (omega (arith, c.requires.six)) in
    let same = c.swap_remove-of.ensures.value ∙ first_is c.in-Ok.seats.items c.swap_remove-of.result _ first in
    (ap (λ k. k.events) same, omega (arith, ap (λ k. k.seat) same))
