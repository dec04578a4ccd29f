use Rattle.std.proofs.Common.{◌<◌, ◌≡◌, map, length, arith, sym, ap, ◌∙◌, List, ℕ, ◌++◌}
use Rattle.std.proofs.lemmas.List.{append-nil, nil_from_length}
use Rattle.tx_tuple.specs.Tuples.{owned_element, packed}
use Rattle.tx_tuple.proofs.Ordered.{tuples_are_one}
use Rattle.tx_tuple.proofs.Fronts.{no_tuple}
use Rattle.tx_tuple.proofs.tuple.unpack.Goals as goal

pub returns-in_default-clause-only : goal.returns-in_default-clause-only
returns-in_default-clause-only c = λ tuple are e.
    let some : 0 < length c.loop-rest.rest.now = grind (arith, c.loop-rest-test.ensures) in
    no_tuple c.args.key.now c.loop-rest.rest.now (map owned_element c.loop-rest.parts.items) tuple
    c.loop-rest.invariant.0 c.loop-rest.invariant.1 some (rw c.in_default.is at c.in_ok-part.ensures) are e

pub returns-clause-only : goal.returns-clause-only
returns-clause-only c = λ tuple are e.
    let none : length c.loop-rest.rest.now ≡ 0 = grind (arith, c.loop-rest-test.ensures) in
    let read = packed (map owned_element c.loop-rest.parts.items) in
    tuples_are_one (map owned_element c.loop-rest.parts.items) tuple c.loop-rest.invariant.0 are
    (sym (append-nil read) ∙ ap (λ (w : List ℕ). read ++ w) (sym (nil_from_length c.loop-rest.rest.now none))
    ∙ sym c.loop-rest.invariant.1 ∙ e)
