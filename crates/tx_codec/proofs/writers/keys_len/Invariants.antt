use Rattle.std.proofs.Common.{◌≡◌, ◌++◌, ◌-◌, ◌^◌, length, take, min}
use Rattle.std.specs.Int.{w16, to_be_bytes}
use Rattle.std.specs.List.{flat_map}
use Rattle.tx_codec.specs.Records.{key_bytes}
use Rattle.tx_codec.proofs.writers.keys_len.Given as goal

abbrev pub invariant-loop-key : goal.invariant-loop-key
invariant-loop-key l = l.len
    ≡ min (length (to_be_bytes w16 (length l.key-items) ++ flat_map key_bytes (take l.key-index l.key-items)))
    (2 ^ 64 - 1)
