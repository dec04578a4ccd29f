use Rattle.std.proofs.Common.{◌≡◌, ◌+◌, ◌++◌, length, vec_len}
use Rattle.std.specs.Prelude.{map}
use Rattle.tx_embed.specs.declared.client.Slot.TheVariants.{Idle}
use Rattle.tx_embed.proofs.store.slots_of.Given as goal

-- the slots so far, and behind them those of the seats that are to come, are those of all seats
abbrev pub invariant-loop-seat : goal.invariant-loop-seat
invariant-loop-seat g l = record {
  each : l.slots.items ++ map Idle l.seat-iterator.rest.items ≡ map Idle l.fn.seats.items;
  count : vec_len l.slots + length l.seat-iterator.rest.items ≡ vec_len l.fn.seats;
}
