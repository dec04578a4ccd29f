use Rattle.std.proofs.Common.{◌≡◌, ◌++◌, [], map, length, sym, ap, ◌∙◌, append-nil, arith}
use Rattle.std.proofs.lemmas.List.{nil_from_length}
use Rattle.tx_embed.specs.declared.client.Slot.TheVariants.{Idle}
use Rattle.tx_embed.proofs.store.slots_of.Goals as goal

pub loop-seat-init : goal.loop-seat-init
loop-seat-init g c =
    let same = c.into_iter-seat-iterator.ensures.into_iter_gives.0 in record {
      each = ap (λ l. l ++ map Idle c.into_iter-seat-iterator.result.rest.items) c.in_ok-slots.ensures.items
          ∙ ap (map Idle) same;
      count = omega (arith, c.in_ok-slots.ensures.len, ap length same, c.args.seats.ok.0);
    }

pub returns-clause-each : goal.returns-clause-each
returns-clause-each g c =
    let rest = c.loop-seat.seat-iterator.rest in
    let none : rest.items ≡ [] = nil_from_length rest.items (omega (arith, c.in-None.ensures.steps.0, rest.ok.0)) in
    sym (append-nil c.loop-seat.slots.items)
    ∙ (ap (λ l. c.loop-seat.slots.items ++ map Idle l) (sym none) ∙ c.loop-seat.invariant.each)
